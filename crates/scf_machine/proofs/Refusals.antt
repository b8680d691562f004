-- A list that keeps every rule is refused for memory alone.
use Rattle.scf_machine.proofs.Common.{◌≢◌, ◌-◌, List, length, refl, ap, arith, slice_get_within, Insn, CheckFault, Empty, TooLong, LastNotReturn, Unset, Memory, IsValidList, KeepsScratchRule, IsFirstFault, IsFirstWrong}

wrong_none : (insns : List Insn) (fault : CheckFault) → IsValidList insns → IsFirstWrong insns fault → ⊥
wrong_none insns fault v w = w.wrong (v.each w.pc (slice_get_within insns w.pc w.insn w.here))

pub only_where : (insns : List Insn) (e : CheckFault)
    → IsFirstFault insns e → e ≢ Memory → IsValidList insns → KeepsScratchRule insns → ⊥
only_where insns Empty h n v k = let e = ap length h in let some = v.some in omega arith
only_where insns TooLong h n v k = let few = v.few in omega arith
only_where insns LastNotReturn h n v k = let some = v.some in
    let at = v.each (length insns - 1) (omega arith) in h.1 _ _ at.stands (v.last _ _ at.stands)
only_where insns (Unset at word) h n v k = k at word h.1
only_where insns Memory h n v k = n refl
only_where insns fault h n v k = wrong_none insns fault v h
