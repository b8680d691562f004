use Rattle.scf_request.proofs.Common.{rules, ◌≡◌, ◌∙◌, ap, List, Option, Some, ℕ, option_map_or, first_value, found_of, first_value-rows}
use Rattle.scf_profile.specs.declared.reading.Reading.{Reading}
use Rattle.scf_profile.specs.declared.reading.Reading.TheVariants.{Strict}
use Rattle.scf_request.specs.Options.{reading_named, reading_option}
use Rattle.scf_request.proofs.options.reading_in.Goals as goal

abbrev named : Option (List ℕ) → Option Reading
named text = option_map_or reading_named text (Some Strict)

pub returns-in-Some : goal.returns-in-Some
returns-in-Some c =
    let is : c.reading_named.result ≡ named (first_value (found_of c.args.matches.now) reading_option) = search rules in
    is ∙ ap named (first_value-rows (found_of c.args.matches.now) reading_option)

pub returns-in-None : goal.returns-in-None
returns-in-None c =
    let is : Some Strict ≡ named (first_value (found_of c.args.matches.now) reading_option) = search rules in
    is ∙ ap named (first_value-rows (found_of c.args.matches.now) reading_option)
