-- What is known of each word, and which lists of words that allows.
use Rattle.std.specs.Prelude.{◌<◌, ℕ, List, All, length, slice_index, slice_index_or}
use Rattle.scf_insn.specs.Words.{IsWords}
use Rattle.scf_facts.specs.declared.bits.Bits.{Bits}
use Rattle.scf_facts.specs.declared.interval.Interval.{Interval}
use Rattle.scf_facts.specs.Bits.{HasBits, LacksBits}
use Rattle.scf_facts.specs.Intervals.{LiesInOne}

-- what is known of one word: it lies in one of the intervals, has the known bits and none of the refuted ones
pub record NumberFacts : Type 0 where
  pub intervals : List Interval
  pub known : Bits
  pub refuted : List Bits

-- the numbers that a word may be
pub record AllowsNumber (facts : NumberFacts) (x : ℕ) : Type 0 where
  pub inside : LiesInOne facts.intervals x
  pub known : HasBits facts.known x
  pub unrefuted : All (λ bits. LacksBits bits x) facts.refuted

-- the lists of sixteen words that are allowed: each word is so by its facts
pub record AllowsWords (sets : List NumberFacts) (words : List ℕ) : Type 0 where
  pub sixteen : IsWords words
  pub each : (index : ℕ) (default : NumberFacts) → index < length sets
      → AllowsNumber (slice_index_or sets index default) (slice_index words index)
