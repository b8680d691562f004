use Rattle.scf_text.proofs.Common.{◌≡◌, ◌+◌, ℕ, Option, Err, IsSome, subst, AddsLabel, err_from_is_err_and, option_map, unwrap_or, words_in, index_after, arith, nat_tests}
use Rattle.scf_text.proofs.IndexLemmas.{index_within, instruction_behind}
use Rattle.scf_text.proofs.ReadLemmas.{label_refused, statement_leaves}
use Rattle.scf_text.proofs.statement.add_statement.Goals as goal
use Rattle.std.proofs.lemmas.Grind.{common_steps}

pub returns-clause-leaves : goal.returns-clause-leaves
returns-clause-leaves c = λ all remaining left.
    let label = c.split_label-label.result.0 in
    let next = c.split_label-label.result.1 in
    let bytes = c.args.part.bytes.now in
    let start = c.args.part.start in
    let mapped : c.and.result ≡ option_map (λ _. start + unwrap_or label 0) label =
    grind (arith, common_steps, nat_tests) in
    let lies = c.split_label-label.ensures.behind in
    statement_leaves (record { line = c.args.part.line; tokens = words_in bytes }) label
    c.add_label.new.labels.items left c.requires c.split_label-label.ensures.label
    (index_within bytes (unwrap_or label 0) next lies) c.add_instruction.result
    (λ after. index_after start bytes after) c.add_instruction.new.parsed_insns.items
    (rw mapped at c.in_ok-add_label.ensures.adds)
    (rw (c.unwrap_or.ensures, c.split_label-label.ensures.rest) at c.add_instruction.ensures.adds)
    (instruction_behind c.add_instruction.result bytes start (unwrap_or label 0) next lies
    c.add_instruction.ensures.behind).0
    (grind (arith, common_steps, nat_tests, c.split_label-label.ensures.rest, c.add_instruction.ensures.some))

pub returns-clause-behind : goal.returns-clause-behind
returns-clause-behind c = grind (arith, common_steps, nat_tests, instruction_behind, c.split_label-label.ensures.behind, c.add_instruction.ensures.behind)

pub returns-in_err-add_label-clause-leaves : goal.returns-in_err-add_label-clause-leaves
returns-in_err-add_label-clause-leaves c = λ all remaining left.
    let p = err_from_is_err_and c.from_residual.result c.from_residual.ensures.1 in
    let label = c.split_label-label.result.0 in
    let bytes = c.args.part.bytes.now in
    let start = c.args.part.start in
    let mapped : c.and.result ≡ option_map (λ _. start + unwrap_or label 0) label =
    grind (arith, common_steps, nat_tests) in
    rw (p.1, p.2)
    (label_refused (record { line = c.args.part.line; tokens = words_in bytes }) label
    c.add_label.new.labels.items left c.requires c.split_label-label.ensures.label
    (index_within bytes (unwrap_or label 0) c.split_label-label.result.1 c.split_label-label.ensures.behind)
    c.in_err-add_label.field-0.0
    (subst (λ (o : Option ℕ). AddsLabel {T = Unit {0}} c.args.text.now c.args.labels.now.items o
    (Err c.in_err-add_label.field-0.0) c.add_label.new.labels.items) mapped c.in_err-add_label.ensures.adds)
    (subst (λ (o : Option ℕ). IsSome o) mapped c.in_err-add_label.ensures.some))
