-- What an input is read as.
use Rattle.std.specs.Prelude.{◌≡◌, ◌≢◌, ℕ, ◌-◌, ◌%◌, ◌<◌, ◌≤◌, List, length, Result, Ok, Err}
use Rattle.scf_insn.specs.declared.insn.Insn.{Insn}
use Rattle.scf_insn.specs.declared.input.InputFault.{InputFault}
use Rattle.scf_insn.specs.declared.input.InputFault.TheVariants.{Read as CantRead, TooLong as PastLimit}
use Rattle.scf_insn.specs.declared.input.InputFault.TheVariants.{Memory as NoMemory}
use Rattle.scf_insn.specs.declared.encoding.ReadFault.{ReadFault}
use Rattle.scf_insn.specs.declared.encoding.ReadFault.TheVariants.{Read, Truncated, TooLong, Memory}
use Rattle.scf_insn.specs.Insn.{program_bytes}
use Rattle.scf_insn.specs.Kernel.{max_filter_len, sock_filter_len}

-- how many bytes are asked of a reader at a time
abbrev pub read_len : ℕ
read_len = 4096

-- What an input of these bytes may be read as under a limit: its bytes, or that it is past the limit. A failure of
-- the reader and running out of memory may stand in place of either.
abbrev pub IsInput : {V : Type 0} → (V → List ℕ) → ℕ → List ℕ → Result V InputFault → Type 0
IsInput view limit bytes (Ok read) = (bytes ≡ view read) × (length bytes ≤ limit)
IsInput view limit bytes (Err PastLimit) = limit < length bytes
IsInput view limit bytes (Err CantRead) = Unit {0}
IsInput view limit bytes (Err NoMemory) = Unit {0}

-- What a filter file of these bytes may be read as: the list that has the bytes; a cut instruction, by the index of
-- its first byte; more bytes than those of the most instructions. A failure of the reader and running out of memory may
-- stand in place of these.
abbrev pub IsReading : {V : Type 0} → (V → List Insn) → List ℕ → Result V ReadFault → Type 0
IsReading view bytes (Ok insns) = (bytes ≡ program_bytes (view insns)) × (length bytes ≤ max_filter_len)
IsReading view bytes (Err (Truncated offset)) = (length bytes ≤ max_filter_len) × (length bytes % sock_filter_len ≢ 0)
    × (offset ≡ length bytes - length bytes % sock_filter_len)
IsReading view bytes (Err TooLong) = max_filter_len < length bytes
IsReading view bytes (Err Read) = Unit {0}
IsReading view bytes (Err Memory) = Unit {0}
