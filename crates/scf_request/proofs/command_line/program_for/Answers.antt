use Rattle.scf_request.proofs.Common.{All-contains, ◌≡◌, ◌∙◌, List, ◌∷◌, map, subst, sym, ap, IfOk-weaker, App, Text, command_word, IsNamed, ReadsAsProgram, scf_with}
use Rattle.std.proofs.lemmas.List.Elements.{All-from_recursion}
use Rattle.scf_request.specs.declared.command_line.Definition.{Definition}
use Rattle.scf_request.proofs.CommandLineLemmas.{alone, behind_first, reads_whole, reads_with}
use Rattle.scf_request.proofs.command_line.program_for.Goals as goal

pub returns-in-Some-definition_named : goal.returns-in-Some-definition_named
returns-in-Some-definition_named g c =
    let words = map g.T.AsStr.text c.args.words.now in
    let definition = c.in-Some-definition_named.definition in
    let IsOwn : Definition → Type 0 = λ d. IsNamed d.name.now d in
    let own = All-contains IsOwn c.commands-definitions.result.now definition
    (All-from_recursion IsOwn c.commands-definitions.result.now c.commands-definitions.ensures.each)
    c.in-Some-definition_named.ensures.0 in
    let named : IsNamed c.as_str.result.now definition =
    (own.0, c.in-Some-definition_named.ensures.1 ∙ own.1, own.2) in
    let parts = behind_first g.T.AsStr.text c.args.words.now c.in-Some.word.now
    c.in-Some.ensures.lookup.3.0 c.in-Some.ensures.lookup.1 in
    let is_words : words ≡ parts.0 ∷ command_word named.0 ∷ parts.1 =
    parts.2 ∙ ap (λ (word : Text). parts.0 ∷ word ∷ parts.1) (sym c.as_str.ensures ∙ named.1) in
    IfOk-weaker c.program.result _ _
    (λ _ is_one.
    subst (λ (app : App). ReadsAsProgram app words) (sym (is_one ∙ alone named.0 definition named.2))
    (subst (λ (texts : List Text). ReadsAsProgram (scf_with named.0) texts) (sym is_words)
    (reads_with named.0 parts.0 parts.1)))
    c.program.ensures

pub returns : goal.returns
returns g c = IfOk-weaker c.program-2.result _ _
    (λ command is. subst (λ (app : App). ReadsAsProgram app (map g.T.AsStr.text c.args.words.now))
    (sym (is ∙ c.commands-definitions.ensures.whole)) (reads_whole (map g.T.AsStr.text c.args.words.now)))
    c.program-2.ensures
