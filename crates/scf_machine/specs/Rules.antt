-- What makes a list of instructions a filter (Linux uapi filter.h; seccomp(2)).
use Rattle.std.specs.Prelude.{◌≡◌, ◌≢◌, ℕ, ◌+◌, ◌-◌, ◌%◌, ◌<◌, ◌≤◌, ◌==◌, ◌⊎◌, Bool, false, List, [], ◌∷◌, length}
use Rattle.std.specs.Prelude.{Option, Some, slice_get}
use Rattle.std.specs.List.{list_any, AllByRecursion}
use Rattle.std.specs.Option.{option_map_or}
use Rattle.scf_insn.specs.declared.insn.Insn.{Insn}
use Rattle.scf_insn.specs.declared.operation.Register.{Register}
use Rattle.scf_insn.specs.declared.operation.Operand.TheVariants.{Constant}
use Rattle.scf_insn.specs.declared.operation.Arithmetic.TheVariants.{Div, Lsh, Rsh}
use Rattle.scf_insn.specs.declared.operation.Operation.{Operation}
use Rattle.scf_insn.specs.declared.operation.Operation.TheVariants.{LoadWord, LoadScratch, StoreScratch, Compute, Jump}
use Rattle.scf_insn.specs.declared.operation.Operation.TheVariants.{JumpIf, ReturnConstant, ReturnAccumulator}
use Rattle.scf_insn.specs.Codes.{operation_of}
use Rattle.scf_insn.specs.Insn.{IsInsn}
use Rattle.scf_insn.specs.Kernel.{bpf_maxinsns, bpf_memwords, seccomp_data_len}

-- At an index of the list stands this instruction, whose code asks for this operation.
pub record Stands (insns : List Insn) (pc : ℕ) (i : Insn) (operation : Operation) : Type 0 where
  pub here : slice_get insns pc ≡ Some i
  pub known : operation_of i.code ≡ Some operation

-- What the rules ask of an instruction at an index, in a list of a length: a load within the record, the index of a
-- scratch word, a divisor that isn't 0, a shift below 32, and jump targets inside the list.
abbrev pub IsFine : ℕ → ℕ → Insn → Operation → Type 0
IsFine len pc i LoadWord = (i.k < seccomp_data_len) × (i.k % 4 ≡ 0)
IsFine len pc i (LoadScratch r) = i.k < bpf_memwords
IsFine len pc i (StoreScratch r) = i.k < bpf_memwords
IsFine len pc i (Compute Div Constant) = i.k ≢ 0
IsFine len pc i (Compute Lsh Constant) = i.k < 32
IsFine len pc i (Compute Rsh Constant) = i.k < 32
IsFine len pc i Jump = pc + 1 + i.k < len
IsFine len pc i (JumpIf test operand) = (pc + 1 + i.jt < len) × (pc + 1 + i.jf < len)
IsFine len pc i _ = Unit {0}

-- The instruction at an index is known and keeps the rules.
pub record IsFineAt (insns : List Insn) (pc : ℕ) : Type 0 where
  pub insn : Insn
  pub operation : Operation
  pub stands : Stands insns pc insn operation
  pub fine : IsFine (length insns) pc insn operation

abbrev pub IsReturn : Operation → Type 0
IsReturn ReturnConstant = Unit {0}
IsReturn ReturnAccumulator = Unit {0}
IsReturn _ = ⊥

-- The rules at each index: instructions up to the most of a filter, each fine, the last one a return.
pub record IsValidList (insns : List Insn) : Type 0 where
  pub some : 0 < length insns
  pub few : length insns ≤ bpf_maxinsns
  pub each : (pc : ℕ) → pc < length insns → IsFineAt insns pc
  pub last : (i : Insn) (operation : Operation) → Stands insns (length insns - 1) i operation → IsReturn operation

-- An edge goes from an index to each jump target of its instruction, and from every other instruction, a return
-- and an unknown code included, to the next index.
abbrev pub GoesTo : Option Operation → Insn → ℕ → ℕ → Type 0
GoesTo (Some Jump) i pc target = target ≡ pc + 1 + i.k
GoesTo (Some (JumpIf test operand)) i pc target = (target ≡ pc + 1 + i.jt) ⊎ (target ≡ pc + 1 + i.jf)
GoesTo _ i pc target = target ≡ pc + 1

pub record Edge (insns : List Insn) (pc target : ℕ) : Type 0 where
  pub insn : Insn
  pub here : slice_get insns pc ≡ Some insn
  pub goes : GoesTo (operation_of insn.code) insn pc target

-- A path comes to an index through earlier ones, the latest first, from index 0 by edges.
abbrev pub IsPath : List Insn → ℕ → List ℕ → Type 0
IsPath insns pc [] = pc ≡ 0
IsPath insns pc (before ∷ earlier) = Edge insns before pc × IsPath insns before earlier

-- the operation stores the scratch word n, of an instruction with this constant
abbrev pub stores_word : Operation → ℕ → ℕ → Bool
stores_word (StoreScratch r) k n = k == n
stores_word _ k n = false

-- the instruction at an index stores the scratch word n
unfoldable pub stores_at : List Insn → ℕ → ℕ → Bool
stores_at insns n pc = option_map_or (λ i. option_map_or (λ operation. stores_word operation i.k n)
    (operation_of i.code) false) (slice_get insns pc) false

-- The instruction at an index loads the scratch word n, and on some path there no earlier index stores it.
pub record IsUnsetAt (insns : List Insn) (pc n : ℕ) : Type 0 where
  pub insn : Insn
  pub register : Register
  pub loads : Stands insns pc insn (LoadScratch register)
  pub word : insn.k ≡ n
  pub earlier : List ℕ
  pub path : IsPath insns pc earlier
  pub unset : list_any (stores_at insns n) earlier ≡ false

-- On every path to a load of a scratch word, an earlier index stores that word.
abbrev pub KeepsScratchRule : List Insn → Type 0
KeepsScratchRule insns = (pc n : ℕ) → IsUnsetAt insns pc n → ⊥

-- A filter: its fields are within their widths, and it keeps every rule.
pub record IsFilter (insns : List Insn) : Type 0 where
  pub widths : AllByRecursion IsInsn insns
  pub valid : IsValidList insns
  pub stored : KeepsScratchRule insns
