-- What is known of the numbers that a filter computes from the words of a record.
use Rattle.std.specs.Prelude.{◌≡◌, ◌<◌, ◌↔◌, ◌^◌, ℕ, List, Bool, false, true, Some, All, slice_index_or}
use Rattle.scf_facts.specs.Atoms.{atom_answer, word_of}
use Rattle.scf_facts.specs.Bits.{HasBits}
use Rattle.scf_insn.specs.Kernel.{bpf_memwords}
use Rattle.scf_machine.specs.Machine.{State, word_at}
use Rattle.scf_compare.specs.declared.value.Value.{Value}
use Rattle.scf_compare.specs.declared.value.Value.TheVariants.{Known, Slice, Affine, Computed}
use Rattle.scf_compare.specs.declared.computed.Computed.{Computed as ComputedBits}
use Rattle.scf_compare.specs.declared.value.Decision.{Decision}
use Rattle.scf_compare.specs.declared.value.Decision.TheVariants.{Known as Decided, Asks, Open}
use Rattle.scf_compare.specs.declared.registers.KnownRegisters.{KnownRegisters}
use Rattle.scf_compare.specs.internal.Asking.{KeepsEither}
use Rattle.scf_compare.specs.internal.BitSlices.{IsBitSlice, IsMaskedSlice, IsWhole, bit_slice_value}
use Rattle.scf_compare.specs.internal.AffineTerms.{IsAffineTerm, affine_value}

-- a number of 32 bits has the known bits of a computed value
abbrev pub IsComputedNumber : ComputedBits → ℕ → Type 0
IsComputedNumber computed x = (x < 2 ^ 32) × HasBits computed.bits x

-- a value is of some of the sixteen words
abbrev pub IsValue : Value → Type 0
IsValue (Known value) = Unit {0}
IsValue (Slice bit_slice) = IsBitSlice bit_slice
IsValue (Affine term) = IsAffineTerm term
IsValue (Computed computed) = Unit {0}

-- over the words a value abstracts a number
abbrev pub Abstracts : Value → List ℕ → ℕ → Type 0
Abstracts (Known value) words x = x ≡ value
Abstracts (Slice bit_slice) words x = x ≡ bit_slice_value bit_slice words
Abstracts (Affine term) words x = x ≡ affine_value term words
Abstracts (Computed computed) words x = IsComputedNumber computed x

-- a decision asks of some of the sixteen words
abbrev pub IsTestDecision : Decision → Type 0
IsTestDecision (Decided outcome) = Unit {0}
IsTestDecision (Asks atom holds) = word_of atom < 16
IsTestDecision (Open open_test) = Unit {0}

-- over the words a decision tells the outcome of a test
abbrev pub Decides : Decision → List ℕ → Bool → Type 0
Decides (Decided outcome) words test = test ≡ outcome
Decides (Asks atom holds) words test = (test ≡ true) ↔ (atom_answer atom words ≡ holds)
Decides (Open open_test) words test = Unit {0}

-- a known number, a whole word of the record, or where it may be under a mask a word under one
abbrev pub IsMaskedValue : ℕ → Bool → Value → Type 0
IsMaskedValue masks under (Known value) = Unit {0}
IsMaskedValue masks under (Slice bit_slice) = IsMaskedSlice masks bit_slice × (under ≡ false → IsWhole bit_slice)
IsMaskedValue masks under (Affine term) = ⊥
IsMaskedValue masks under (Computed computed) = ⊥

-- a decision that isn't left open, and with which facts still refute under bits of the masks alone
abbrev pub IsPlainDecision : ℕ → Decision → Type 0
IsPlainDecision masks (Decided outcome) = Unit {0}
IsPlainDecision masks (Asks atom holds) = KeepsEither masks atom
IsPlainDecision masks (Open open_test) = ⊥

pub record AreValues (registers : KnownRegisters) : Type 0 where
  pub a : IsValue registers.a
  pub x : IsValue registers.x
  pub scratch : All IsValue registers.scratch

-- Over the words the values abstract the registers of a state, and the scratch words that were stored.
pub record Describes (registers : KnownRegisters) (words : List ℕ) (s : State) : Type 0 where
  pub a : Abstracts registers.a words s.a
  pub x : Abstracts registers.x words s.x
  pub scratch : (n value : ℕ) (past : Value) → n < bpf_memwords → word_at s.scratch n ≡ Some value
      → Abstracts (slice_index_or registers.scratch n past) words value
