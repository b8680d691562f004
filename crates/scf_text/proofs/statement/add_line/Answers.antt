use Rattle.scf_text.proofs.Common.{◌++◌, map, arith, err_from_is_err_and, others_in, Statement, nat_tests}
use Rattle.scf_text.proofs.IndexLemmas.{behind_is_part}
use Rattle.scf_text.proofs.ReadLemmas.{index_left}
use Rattle.scf_text.proofs.statement.add_line.Goals as goal
use Rattle.std.proofs.lemmas.Grind.{common_steps}

pub returns-in_err-add_statement : goal.returns-in_err-add_statement
returns-in_err-add_statement c = λ all remaining left.
    let p = err_from_is_err_and c.from_residual.result c.from_residual.ensures.1 in
    let others = map (λ ts. let s : Statement = record { line = c.statements.part.line; tokens = ts } in s)
    (others_in c.statements.part.bytes.now) in
    rw (p.1, p.2)
    (c.in_err-add_statement.ensures.leaves all (others ++ remaining) (c.statements.invariant.left all remaining left))

pub returns-in-None : goal.returns-in-None
returns-in-None c = grind (arith, common_steps, nat_tests, index_left, c.in_ok-add_statement.ensures.stops, c.in_ok-add_statement.ensures.leaves, c.statements.invariant.left, c.statements.invariant.end)

pub statements-preserved : goal.statements-preserved
statements-preserved c = grind (arith, common_steps, nat_tests, behind_is_part, c.in_ok-add_statement.ensures.stops, c.in_ok-add_statement.ensures.behind, c.statements.invariant.part, c.statements.invariant.end, c.in_ok-add_statement.ensures.leaves, c.statements.invariant.left)
