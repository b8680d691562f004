use Rattle.scf_facts.proofs.Common.{refl}
use Rattle.scf_facts.proofs.high_mask.is_high_mask.Goals as goal

-- all bits are shifted by none
pub returns-then-mask-ne0-clause-all : goal.returns-then-mask-ne0-clause-all
unfolding lib.Count.count_trailing_zeros
returns-then-mask-ne0-clause-all c = λ all. rw all refl
