-- Sets of arguments, which are numbers up to a greatest one, and what two sets have in common.
use Rattle.std.specs.Prelude.{◌≡◌, ℕ, ◌≤◌, Bool, true, false, not, ◌==◌, nat_le, bit_and, Option, Some, None}
use Rattle.scf_insn.specs.Architectures.{greatest_argument}
use Rattle.scf_insn.specs.declared.architecture.ArgumentBits.{ArgumentBits}
use Rattle.scf_profile.specs.declared.number_set.NumberSet.{NumberSet}
use Rattle.scf_profile.specs.declared.number_set.NumberSet.TheVariants.{AtMost, AtLeast, AllBut, Masked}

-- a number is in a set
abbrev pub is_in : NumberSet → ℕ → Bool
is_in (AtMost last) n = nat_le n last
is_in (AtLeast first) n = nat_le first n
is_in (AllBut excluded) n = not (n == excluded)
is_in (Masked mask value) n = bit_and n mask == value

-- its first number is an argument, and a masked value has no bit outside its mask
abbrev pub IsNumberSet : ArgumentBits → NumberSet → Type 0
IsNumberSet bits (AtMost last) = Unit {0}
IsNumberSet bits (AtLeast first) = first ≤ greatest_argument bits
IsNumberSet bits (AllBut excluded) = Unit {0}
IsNumberSet bits (Masked mask value) = (bit_and value mask ≡ value) × (value ≤ greatest_argument bits)

-- a number is in a set, where there is one
abbrev pub is_in_some : Option NumberSet → ℕ → Bool
is_in_some None n = false
is_in_some (Some set) n = is_in set n

-- the least argument of a set
pub record IsLeastOf (bits : ArgumentBits) (set : NumberSet) (n : ℕ) : Type 0 where
  pub fits : n ≤ greatest_argument bits
  pub has : is_in set n ≡ true
  pub least : (k : ℕ) → is_in set k ≡ true → n ≤ k

-- the greatest one
pub record IsGreatestOf (bits : ArgumentBits) (set : NumberSet) (n : ℕ) : Type 0 where
  pub fits : n ≤ greatest_argument bits
  pub has : is_in set n ≡ true
  pub greatest : (k : ℕ) → k ≤ greatest_argument bits → is_in set k ≡ true → k ≤ n

-- some argument is in both sets
pub record HaveCommonNumber (bits : ArgumentBits) (s t : NumberSet) : Type 0 where
  pub number : ℕ
  pub fits : number ≤ greatest_argument bits
  pub first : is_in s number ≡ true
  pub second : is_in t number ≡ true
