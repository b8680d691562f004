-- Call records, their words and their bytes (Linux uapi seccomp.h, struct seccomp_data), little-endian.
use Rattle.std.specs.Prelude.{◌≡◌, ℕ, ◌+◌, ◌*◌, ◌/◌, ◌%◌, ◌^◌, ◌<◌, List, [], ◌∷◌, ◌++◌, length, slice_index}
use Rattle.std.specs.List.{flat_map, AllByRecursion}
use Rattle.std.specs.Int.{w32, to_le_bytes}
use Rattle.scf_insn.specs.declared.record.CallRecord.{CallRecord}
use Rattle.scf_insn.specs.Kernel.{seccomp_data_args}

-- each field of the record fits its width, and there are six arguments
pub record IsRecord (call : CallRecord) : Type 0 where
  pub nr : call.nr < 2 ^ 32
  pub arch : call.arch < 2 ^ 32
  pub ip : call.ip < 2 ^ 64
  pub count : length call.args ≡ seccomp_data_args
  pub args : (i : ℕ) → slice_index call.args i < 2 ^ 64

-- the low and the high 32 bits of a 64-bit number
abbrev pub low : ℕ → ℕ
low n = n % 2 ^ 32

abbrev pub high : ℕ → ℕ
high n = n / 2 ^ 32

-- a 64-bit number as two words, the low one first
abbrev pub halves : ℕ → List ℕ
halves n = low n ∷ high n ∷ []

-- the sixteen words of a record
abbrev pub words_of : CallRecord → List ℕ
words_of call = call.nr ∷ call.arch ∷ halves call.ip ++ flat_map halves call.args

-- the argument at an index
abbrev pub argument : CallRecord → ℕ → ℕ
argument call i = slice_index call.args i

-- the 64 bytes of a record
abbrev pub record_bytes : CallRecord → List ℕ
record_bytes call = flat_map (to_le_bytes w32) (words_of call)

-- sixteen numbers below 2^32
pub record IsWords (words : List ℕ) : Type 0 where
  pub count : length words ≡ 16
  pub each : AllByRecursion (λ word. word < 2 ^ 32) words

-- the 64-bit number of the two words from an index on
abbrev pub number_at : List ℕ → ℕ → ℕ
number_at words i = slice_index words i + 2 ^ 32 * slice_index words (i + 1)

-- the record that has these words
abbrev pub call_of : List ℕ → CallRecord
call_of words = record {
  nr = slice_index words 0;
  arch = slice_index words 1;
  ip = number_at words 2;
  args = number_at words 4 ∷ number_at words 6 ∷ number_at words 8 ∷ number_at words 10
      ∷ number_at words 12 ∷ number_at words 14 ∷ [];
}
