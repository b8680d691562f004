use Rattle.std.proofs.Math.Nat.{add-zero}
use Rattle.scf_profile.specs.PlainProfile.{IsPlainProfile}
use Rattle.scf_compare.specs.Masked.{IsMaskedProfile}
use Rattle.scf_profile.specs.declared.relation.Relation.TheVariants.{Same}
use Rattle.scf_compare.proofs.Verdicts.{alone, decided_in, true_by}
use Rattle.scf_compare.proofs.comparer.compare_stack.Goals as goal

pub returns-clause-holds : goal.returns-clause-holds
returns-clause-holds g c =
    let holds = rw (c.filters.ensures.same, c.from_ref.ensures.value) at c.in_ok-finding.ensures.holds in
    true_by Same c.args.scope c.args.stack.now c.args.profile.now c.verdict.result (rw c.verdict.ensures holds)

pub returns-clause-decided : goal.returns-clause-decided
returns-clause-decided g c = λ exact plain plain_profile.
    let same = c.filters.ensures.same in
    let decided =
    rw (same, c.from_ref.ensures.value, c.of_steps-limit.ensures, ← c.verdict.ensures) at c.in_ok-finding.ensures.decided in
    rw add-zero at (decided_in Same c.args.scope c.args.stack.now c.args.profile.now c.args.limit _ c.verdict.result
    (decided exact plain (alone IsPlainProfile c.args.profile.now plain_profile)))

pub returns-clause-by_masks : goal.returns-clause-by_masks
returns-clause-by_masks g c = λ exact masks few masked masked_profile.
    let same = c.filters.ensures.same in
    let decided =
    rw (same, c.from_ref.ensures.value, c.of_steps-limit.ensures, ← c.verdict.ensures) at c.in_ok-finding.ensures.by_masks in
    rw add-zero at (decided_in Same c.args.scope c.args.stack.now c.args.profile.now c.args.limit _ c.verdict.result
    (decided exact masks few masked (alone (IsMaskedProfile masks) c.args.profile.now masked_profile)))
