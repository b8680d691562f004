-- Instructions and their bytes (Linux uapi filter.h, struct sock_filter), little-endian.
use Rattle.std.specs.Prelude.{ℕ, ◌<◌, ◌^◌, List, ◌∷◌, ◌++◌}
use Rattle.std.specs.List.{flat_map}
use Rattle.std.specs.Int.{w16, w32, to_le_bytes}
use Rattle.scf_insn.specs.declared.insn.Insn.{Insn}

-- each field of the instruction fits its width
pub record IsInsn (i : Insn) : Type 0 where
  pub code : i.code < 2 ^ 16
  pub jt : i.jt < 2 ^ 8
  pub jf : i.jf < 2 ^ 8
  pub k : i.k < 2 ^ 32

-- the 8 bytes of an instruction: code, jt, jf, k
abbrev pub insn_bytes : Insn → List ℕ
insn_bytes i = to_le_bytes w16 i.code ++ i.jt ∷ i.jf ∷ to_le_bytes w32 i.k

-- the bytes of a list of instructions, one after another
abbrev pub program_bytes : List Insn → List ℕ
program_bytes insns = flat_map insn_bytes insns
