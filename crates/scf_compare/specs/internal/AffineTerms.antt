-- Affine terms: a bit slice under an XOR with a constant, times a constant, plus one, divided by one.
use Rattle.std.specs.Prelude.{◌+◌, ◌*◌, ◌/◌, ◌%◌, ◌<◌, ◌^◌, ◌&&◌, ℕ, List, Bool, bit_xor, nat_le}
use Rattle.scf_compare.specs.declared.affine_term.AffineTerm.{AffineTerm}
use Rattle.scf_compare.specs.internal.BitSlices.{IsBitSlice, bit_slice_value}

-- the bit slice under the XOR
abbrev pub xored_value : AffineTerm → List ℕ → ℕ
xored_value term words = bit_xor (bit_slice_value term.bit_slice words) term.xor_mask

-- the product, modulo 2^32
abbrev pub product_value : AffineTerm → List ℕ → ℕ
product_value term words = xored_value term words * term.factor % 2 ^ 32

-- what is divided: a sum modulo 2^32
abbrev pub sum_value : AffineTerm → List ℕ → ℕ
sum_value term words = (product_value term words + term.addend) % 2 ^ 32

abbrev pub affine_value : AffineTerm → List ℕ → ℕ
affine_value term words = sum_value term words / term.divisor

-- An affine term of a bit slice; its divisor isn't 0.
pub record IsAffineTerm (term : AffineTerm) : Type 0 where
  pub bit_slice : IsBitSlice term.bit_slice
  pub some : 0 < term.divisor

-- whether a number lies in a range
abbrev pub is_within : ℕ → ℕ → ℕ → Bool
is_within low high number = nat_le low number && nat_le number high
