-- Scopes that have records.
use Rattle.scf_request.proofs.Common.{ℕ, ◌<◌, ◌≤◌, ◌^◌, List, [], ◌∷◌, refl, arith, Architecture, X8664, X86, row_of}
use Rattle.std.proofs.Common.{IsTrue, leb, max, min}
use Rattle.std.proofs.lemmas.Bool.{leb-true, le-leb}
use Rattle.scf_insn.proofs.Architectures.{reach}
use Rattle.scf_insn.proofs.CallWords.{IsRecord-call_of}
use Rattle.scf_insn.specs.Words.{IsWords, call_of}
use Rattle.scf_profile.specs.Scope.{IsInScope}
use Rattle.scf_profile.specs.declared.scope.Scope.TheVariants.{All, Native, Numbers}
use Rattle.scf_request.specs.Requests.{HasRecord}

-- the words of a record with this number and this architecture
abbrev words_with : ℕ → ℕ → List ℕ
words_with nr arch = nr ∷ arch ∷ 0 ∷ 0 ∷ 0 ∷ 0 ∷ 0 ∷ 0 ∷ 0 ∷ 0 ∷ 0 ∷ 0 ∷ 0 ∷ 0 ∷ 0 ∷ 0 ∷ []

are_words : (nr arch : ℕ) → nr < 2 ^ 32 → arch < 2 ^ 32 → IsWords (words_with nr arch)
are_words nr arch small_nr small_arch =
    let zero_fits : 0 < 2 ^ 32 = omega arith in
    let z = zero_fits in
    record {
      count = refl;
      each = (small_nr, (small_arch, (z, (z, (z, (z, (z, (z, (z, (z, (z, (z, (z, (z, (z, (z, tt))))))))))))))));
    }

-- an architecture's numbers that are in a range have records
numbered : (a : Architecture) (first last nr : ℕ) → (row_of a).first ≤ nr → nr ≤ (row_of a).last
    → first ≤ nr → nr ≤ last → HasRecord (IsInScope (Numbers a first last))
numbered a first last nr from to above below =
    let top = (reach a).small in
    let small : nr < 2 ^ 32 = omega arith in
    record {
      call = call_of (words_with nr (row_of a).audit);
      is_record = IsRecord-call_of (words_with nr (row_of a).audit)
          (are_words nr (row_of a).audit small (reach a).audit);
      is_one = (record { arch = refl; first = from; last = to }, above, below);
    }

-- a range and an architecture's numbers meet
pub numbers_meet : (a : Architecture) (first last : ℕ)
    → (IsTrue (leb (max first (row_of a).first) (min last (row_of a).last)) → HasRecord (IsInScope (Numbers a first last)))
    × (HasRecord (IsInScope (Numbers a first last)) → IsTrue (leb (max first (row_of a).first) (min last (row_of a).last)))
numbers_meet a first last = (
  λ is.
      let order = leb-true (max first (row_of a).first) (min last (row_of a).last) is in
      numbered a first last (max first (row_of a).first) (omega arith) (omega arith) (omega arith) (omega arith),
  λ has.
      let from = has.is_one.0.first in
      let to = has.is_one.0.last in
      let above = has.is_one.1 in
      let below = has.is_one.2 in
      le-leb (max first (row_of a).first) (min last (row_of a).last) (omega arith),
)

pub some_native : HasRecord (IsInScope Native)
some_native =
    let some = numbered X8664 0 0 0 (omega arith) (omega arith) (omega arith) (omega arith) in
    record { call = some.call; is_record = some.is_record; is_one = some.is_one.0 }

pub some_record : HasRecord (IsInScope All)
some_record = record { call = some_native.call; is_record = some_native.is_record; is_one = tt }

-- every number is one of i386's
pub of_any : (first last : ℕ) → last < 2 ^ 32
    → (IsTrue (leb first last) → (a : Architecture) × HasRecord (IsInScope (Numbers a first last)))
    × (((a : Architecture) × HasRecord (IsInScope (Numbers a first last))) → IsTrue (leb first last))
of_any first last small = (
  λ is.
      let order = leb-true first last is in
      (X86, numbered X86 first last first (omega arith) (omega arith) (omega arith) (omega arith)),
  λ has.
      let above = has.1.is_one.1 in
      let below = has.1.is_one.2 in
      le-leb first last (omega arith),
)
