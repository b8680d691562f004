use Rattle.std.proofs.lemmas.Grind.{common_steps}
use Rattle.scf_compile.proofs.Common.{◌≡◌, arith, drop_more}
use Rattle.scf_compile.proofs.compiler.searches_of.Goals as goal

pub loop-i-preserved : goal.loop-i-preserved
loop-i-preserved c = grind (
  arith,
  common_steps,
  drop_more,
  c.index-profiles-i.is,
  c.in_ok-put_profile.ensures.put,
  c.loop-i.invariant.put,
  c.in_ok-put_profile.ensures.small,
)

pub returns-clause-put : goal.returns-clause-put
returns-clause-put c =
    let i : c.loop-i.i ≡ 0 = omega arith in rw c.from.ensures.0 (rw i at c.loop-i.invariant.put)
