use Rattle.scf_profile.proofs.Common.{◌∙◌, sym, texts_at, with_machine, arith, nat_tests, common_steps}
use Rattle.scf_profile.proofs.Loops.{listed_end, listed_here, unlisted_here}
use Rattle.scf_profile.proofs.object.all_listed.Goals as goal

pub returns-then-not-is_listed : goal.returns-then-not-is_listed
returns-then-not-is_listed c =
    sym (unlisted_here (with_machine c.args.machine (texts_at c.args.names.now)) c.args.tables.now c.loop-i.i
    c.index-tables-i.result c.loop-i-test.true (rw (← c.index-tables-i.is) (sym c.is_listed.ensures ∙ c.if-not-is_listed.true)))
    ∙ c.loop-i.invariant

pub loop-i-preserved : goal.loop-i-preserved
loop-i-preserved c =
    sym (listed_here (with_machine c.args.machine (texts_at c.args.names.now)) c.args.tables.now c.loop-i.i
    c.index-tables-i.result c.loop-i-test.true (rw (← c.index-tables-i.is) (sym c.is_listed.ensures ∙ c.if-not-is_listed.false)))
    ∙ c.loop-i.invariant

pub returns : goal.returns
returns c = grind (arith, common_steps, nat_tests, listed_end, c.loop-i.invariant)
