-- What the rows of the architectures have in common.
use Rattle.scf_insn.proofs.Common.{◌≡◌, ℕ, ◌+◌, ◌-◌, ◌<◌, ◌≤◌, ◌^◌, ◌⊎◌, List, [], ◌∷◌, arith, AllByRecursion, x32_syscall_bit}
use Rattle.scf_insn.specs.Architectures.{AreApart, architectures, row_of}
use Rattle.scf_insn.specs.declared.architecture.Architecture.{Architecture}

-- Its audit value and its numbers have 32 bits, there is room for the numbers of a call table, and its numbers begin at 0
-- or go on to the greatest one.
pub record Reaches (a : Architecture) : Type 0 where
  pub small : (row_of a).last < 2 ^ 32
  pub room : (row_of a).first + x32_syscall_bit ≤ (row_of a).last + 1
  pub an_end : ((row_of a).first ≡ 0) ⊎ ((row_of a).last ≡ 2 ^ 32 - 1)
  pub audit : (row_of a).audit < 2 ^ 32

pub reach : (a : Architecture) → Reaches a
reach a = grind arith

-- some number is its own
pub some_number : (a : Architecture) → (row_of a).first ≤ (row_of a).last
some_number a = let room = (reach a).room in omega arith

-- the numbers of a call table are numbers of each of them
pub number_within : (a : Architecture) (number : ℕ) → number < x32_syscall_bit
    → (row_of a).first + number ≤ (row_of a).last
number_within a number below = let room = (reach a).room in omega arith

-- the number of a call of a table has 32 bits in a record
pub number_fits : (a : Architecture) (number : ℕ) → number < x32_syscall_bit → (row_of a).first + number < 2 ^ 32
number_fits a number below = let within = number_within a number below in let small = (reach a).small in omega arith

-- each is apart from those behind it
abbrev pub EachApart : List Architecture → Type 0
EachApart [] = Unit {0}
EachApart (a ∷ later) = AllByRecursion (AreApart a) later × EachApart later

pub each_apart : EachApart architectures
each_apart = grind arith
