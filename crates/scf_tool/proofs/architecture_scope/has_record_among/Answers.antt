use Rattle.std.proofs.Common.{rules, tests}
use Rattle.std.proofs.lemmas.Iterator.{YieldsList-from_slice, cases_from_any}
use Rattle.scf_tool.proofs.ScopeLemmas.{HasOne, among_cases}
use Rattle.scf_tool.proofs.architecture_scope.has_record_among.Goals as goal

pub returns : goal.returns
returns c =
    let tables = c.args.tables.now in
    let scope = c.args.scope in
    among_cases c.any.result tables scope
    (cases_from_any _ _ c.any.result (HasOne scope) (λ table. HasOne scope table → ⊥) c.any.ensures.ran
    (YieldsList-from_slice tables cc) (λ x q k. search (rules, tests)) (λ x q k. search (rules, tests)))
