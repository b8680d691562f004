use Rattle.std.proofs.Common.{◌≡◌, ◌+◌, ◌-◌, ◌*◌, ◌<◌, ◌∙◌, ◌++◌, ◌∷◌, [], List, ℕ, arith, get_or, inl, inr, length, map, subst, sym}
use Rattle.std.proofs.lemmas.Bool.{cases_lt}
use Rattle.std.proofs.lemmas.List.{get_or-append-add, get_or-map, get_or_append_left}
use Rattle.std.proofs.lemmas.List.FromFn.{fill_by_all}
use Rattle.scf_request.proofs.Common.{BesideProfile, CountsOf, Filter, PartKind, Profile, StubOf, TableOf, X8664, architecture_kinds, architectures}
use Rattle.scf_request.proofs.bundle.architecture_kinds.Goals as goal

abbrev first_kinds : List PartKind
first_kinds = Filter ∷ Profile ∷ BesideProfile ∷ []

abbrev tables : List PartKind
tables = map (λ architecture. TableOf architecture) architectures

abbrev stubs : List PartKind
stubs = map (λ architecture. StubOf architecture) architectures

abbrev counts : List PartKind
counts = map (λ architecture. CountsOf architecture) architectures

table_at : (k : ℕ) → k < length architectures
    → get_or architecture_kinds (3 + k) Filter ≡ TableOf (get_or architectures k X8664)
table_at k below =
    get_or-append-add first_kinds (tables ++ stubs ++ counts) k Filter
    ∙ get_or_append_left tables (stubs ++ counts) Filter k below
    ∙ get_or-map (λ architecture. TableOf architecture) architectures k X8664 Filter below

stub_at : (k : ℕ) → k < length architectures
    → get_or architecture_kinds (3 + length architectures + k) Filter ≡ StubOf (get_or architectures k X8664)
stub_at k below =
    get_or-append-add (first_kinds ++ tables) (stubs ++ counts) k Filter
    ∙ get_or_append_left stubs counts Filter k below
    ∙ get_or-map (λ architecture. StubOf architecture) architectures k X8664 Filter below

counts_at : (k : ℕ) → k < length architectures
    → get_or architecture_kinds (3 + 2 * length architectures + k) Filter ≡ CountsOf (get_or architectures k X8664)
counts_at k below = get_or-append-add (first_kinds ++ tables ++ stubs) counts k Filter
    ∙ get_or-map (λ architecture. CountsOf architecture) architectures k X8664 Filter below

pub returns : goal.returns
returns c =
    let kinds = c.loop-i.kinds in
    let filled = c.loop-i.invariant in
    let IsAt : ℕ → Type 0 = λ k. get_or kinds k Filter ≡ get_or architecture_kinds k Filter in
    let at_stubs = 3 + length architectures in
    let at_counts = 3 + 2 * length architectures in
    let each : (k : ℕ) → k < length architecture_kinds → IsAt k = λ k below. elim (cases_lt k 3) [
      | inl first ↦ filled.1 k first
      | inr later ↦ elim (cases_lt k at_stubs) [
        | inl of_table ↦
            let within : k - 3 < length architectures = omega arith in
            subst IsAt (omega arith) (filled.2 (k - 3) (omega (arith, c.loop-i-test.false)) ∙ sym (table_at (k - 3) within))
        | inr behind ↦ elim (cases_lt k at_counts) [
          | inl of_stub ↦
              let within : k - at_stubs < length architectures = omega arith in
              subst IsAt (omega arith)
              (filled.3 (k - at_stubs) (omega (arith, c.loop-i-test.false)) ∙ sym (stub_at (k - at_stubs) within))
          | inr of_counts ↦
              let within : k - at_counts < length architectures = omega arith in
              subst IsAt (omega arith)
              (filled.4 (k - at_counts) (omega (arith, c.loop-i-test.false)) ∙ sym (counts_at (k - at_counts) within))
        ]
      ]
    ] in
    fill_by_all (λ k. get_or architecture_kinds k Filter) kinds (length architecture_kinds) Filter filled.0 each
