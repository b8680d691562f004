use Rattle.scf_text.proofs.Common.{take, nat_eq, IsDistinct, IsFirstRepeat}
use Rattle.scf_text.proofs.label.first_repeat.Given as goal

abbrev pub invariant-loop-index : goal.invariant-loop-index
invariant-loop-index l = IsDistinct nat_eq l.labels → IsFirstRepeat l.text (take l.index l.labels) l.first
