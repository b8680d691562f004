use Rattle.scf_profile.proofs.Common.{◌≡◌, eqb, false, arith, eq-eqb, ne_eqb, take_all, All-more, All-same, nat_tests, common_steps}
use Rattle.std.proofs.lemmas.List.{length-drop}
use Rattle.scf_profile.proofs.Cuts.{line_ends, last_line}
use Rattle.scf_profile.proofs.table_line.first_line.Goals as goal

pub returns-then-byte-eq10-clause-lines : goal.returns-then-byte-eq10-clause-lines
returns-then-byte-eq10-clause-lines c = grind (arith, common_steps, nat_tests, take_all, length-drop, line_ends, eq-eqb, c.strip_carriage_return.ensures, c.loop-i.invariant)

pub loop-i-preserved : goal.loop-i-preserved
loop-i-preserved c =
    All-more (λ b. eqb b 10 ≡ false) _ c.loop-i.i 0 c.loop-i-test.true c.loop-i.invariant
    (ne_eqb _ 10 c.if-byte-eq10.false)

pub returns-clause-lines : goal.returns-clause-lines
returns-clause-lines c =
    grind (arith, c.requires, c.loop-i-test.false, c.loop-i.invariant, last_line, All-same, take_all)
