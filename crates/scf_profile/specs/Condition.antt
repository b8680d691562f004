-- When a condition holds of a 64-bit number: the operators of the OCI runtime specification (config-linux.md, seccomp).
use Rattle.std.specs.Prelude.{ℕ, Bool, not, ◌==◌, nat_lt, nat_le, bit_and}
use Rattle.scf_profile.specs.declared.condition.Operator.{Operator}
use Rattle.scf_profile.specs.declared.condition.Operator.TheVariants.{NotEqual, Less, LessOrEqual, Equal}
use Rattle.scf_profile.specs.declared.condition.Operator.TheVariants.{GreaterOrEqual, Greater, MaskedEqual}
use Rattle.scf_profile.specs.declared.condition.Condition.{Condition}

-- a number against a value; a mask takes the bits to compare from the value, and their values from the second one
abbrev pub compares : Operator → ℕ → ℕ → ℕ → Bool
compares NotEqual number value value_two = not (number == value)
compares Less number value value_two = nat_lt number value
compares LessOrEqual number value value_two = nat_le number value
compares Equal number value value_two = number == value
compares GreaterOrEqual number value value_two = nat_le value number
compares Greater number value value_two = nat_lt value number
compares MaskedEqual number value value_two = bit_and number value == bit_and value_two value

abbrev pub condition_holds : Condition → ℕ → Bool
condition_holds c number = compares c.op number c.value c.value_two
