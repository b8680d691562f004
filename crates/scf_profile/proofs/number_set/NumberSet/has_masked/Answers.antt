use Rattle.scf_profile.proofs.Common.{eq-eqb, eqb-true}
use Rattle.scf_profile.proofs.Masks.{two_masks, two_masks_agree}
use Rattle.scf_profile.proofs.number_set.NumberSet.has_masked.Goals as goal

pub returns-in-Masked : goal.returns-in-Masked
returns-in-Masked c =
    let bits = c.args.bits in
    let m = c.in-Masked.own_mask in
    let v = c.in-Masked.own_value in
    let set = rw c.in-Masked.is at c.requires.own in
    let masked = c.requires.masked in
    rw c.in-Masked.is (
      λ h. two_masks bits m v c.args.mask c.args.value set.1 masked.1 set.0 masked.0 (eqb-true _ _ h),
      λ s. eq-eqb _ _ (two_masks_agree bits m v c.args.mask c.args.value s),
    )
