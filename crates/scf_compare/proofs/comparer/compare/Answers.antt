use Rattle.std.proofs.Math.Nat.{add-zero, mul-one}
use Rattle.scf_compare.proofs.Common.{[], ◌∷◌, IsPlainProgram, Same}
use Rattle.scf_profile.specs.PlainProfile.{IsPlainProfile}
use Rattle.scf_profile.specs.declared.scope.Scope.TheVariants.{All}
use Rattle.scf_compare.specs.Masked.{IsMaskedProfile, IsMaskedProgram}
use Rattle.scf_compare.proofs.Verdicts.{alone, alone_same, decided_in, decided_same, same_alone, true_alone, true_by}
use Rattle.scf_compare.proofs.comparer.compare.Goals as goal

pub returns-clause-holds : goal.returns-clause-holds
returns-clause-holds g c =
    let program = c.args.program.now in
    true_alone program c.args.profile.now c.verdict.result (true_by Same All (program ∷ []) c.args.profile.now
    c.verdict.result (rw c.verdict.ensures (rw (c.from_ref.ensures.value, c.from_ref-2.ensures.value) at c.in_ok-finding.ensures.holds)))

pub returns-clause-within : goal.returns-clause-within
returns-clause-within g c =
    rw c.verdict.ensures
    (rw (c.from_ref.ensures.value, c.from_ref-2.ensures.value, add-zero, mul-one, c.of_steps-limit.ensures) at c.in_ok-finding.ensures.within)

pub returns-clause-decided : goal.returns-clause-decided
returns-clause-decided g c = λ exact plain plain_profile.
    let program = c.args.program.now in
    let profile = c.args.profile.now in
    let decided =
    rw (c.from_ref.ensures.value, c.from_ref-2.ensures.value, c.of_steps-limit.ensures, ← c.verdict.ensures) at c.in_ok-finding.ensures.decided in
    rw (add-zero, mul-one) at (decided_same _ _ c.args.limit _ c.verdict.result (same_alone program profile) (alone_same program profile)
    (decided_in Same All (program ∷ []) profile c.args.limit _ c.verdict.result
    (decided exact (alone IsPlainProgram program plain) (alone IsPlainProfile profile plain_profile))))

pub returns-clause-by_masks : goal.returns-clause-by_masks
returns-clause-by_masks g c = λ exact masks few masked masked_profile.
    let program = c.args.program.now in
    let profile = c.args.profile.now in
    let decided =
    rw (c.from_ref.ensures.value, c.from_ref-2.ensures.value, c.of_steps-limit.ensures, ← c.verdict.ensures) at c.in_ok-finding.ensures.by_masks in
    rw (add-zero, mul-one) at (decided_same _ _ c.args.limit _ c.verdict.result (same_alone program profile) (alone_same program profile)
    (decided_in Same All (program ∷ []) profile c.args.limit _ c.verdict.result
    (decided exact masks few (alone (IsMaskedProgram masks) program masked)
    (alone (IsMaskedProfile masks) profile masked_profile))))
