use Rattle.scf_request.proofs.Common.{rules, ◌≡◌, ◌∙◌, ap, codes, false, Bool, List, Option, ℕ, bytes_eq, option_map_or, first_value, found_of, first_value-rows}
use Rattle.scf_request.proofs.options.is_given.Goals as goal

abbrev is_true : Option (List ℕ) → Bool
is_true text = option_map_or (λ given. bytes_eq given (codes "true")) text false

pub returns-in-Some : goal.returns-in-Some
returns-in-Some c =
    let is : c.eq.result ≡ is_true (first_value (found_of c.args.matches.now) c.args.name.now) = search rules in
    is ∙ ap is_true (first_value-rows (found_of c.args.matches.now) c.args.name.now)

pub returns-in-None : goal.returns-in-None
returns-in-None c =
    let here : false ≡ is_true (first_value (found_of c.args.matches.now) c.args.name.now) = search rules in
    here ∙ ap is_true (first_value-rows (found_of c.args.matches.now) c.args.name.now)
