use Rattle.scf_compare.proofs.Common.{◌∙◌, ◌<◌, ℕ, List, All, arith, inl, inr, refl, slice_get-get_or, slice_get_within, get_or_from_slice_get, words_of}
use Rattle.scf_profile.proofs.Common.{cases_order}
use Rattle.scf_compare.specs.Regions.{AreDisjoint, IsDecidedRegion, LieInRegion}
use Rattle.scf_compare.specs.declared.region.Region.{Region}
use Rattle.std.specs.Prelude.{AllPairs}
use Rattle.scf_compare.proofs.laws.regions_partition.Goals as goal

-- no words lie in one of several decided regions and in a later one
not_in_two : (regions : List Region) (words : List ℕ) (first second : ℕ) → AllPairs AreDisjoint regions
    → All IsDecidedRegion regions → LieInRegion regions words first → LieInRegion regions words second
    → first < second → ⊥
not_in_two regions words first second disjoint decided in_first in_second before =
    let here = in_first.0 in
    let there = in_second.0 in
    let here_is = get_or_from_slice_get regions first here here in_first.1 in
    let there_is = get_or_from_slice_get regions second there here in_second.1 in
    let inside = slice_get_within regions second there in_second.1 in
    let apart : AreDisjoint here there = rw (here_is, there_is) at (disjoint first second here before inside) in
    let exact : IsDecidedRegion here = rw here_is at (decided first here (omega (arith, before, inside))) in
    let exact_too : IsDecidedRegion there = rw there_is at (decided second here inside) in
    apart exact.0 exact_too.0 words in_first.2 in_second.2

pub returns : goal.returns
returns c = λ left right scope limit regions are decided call is_record in_scope.
    let covered = are.covered call is_record in_scope in
    let (index, inside, is) = covered.listed in
    let stands = slice_get-get_or regions.list.items index covered.region inside ∙ rw is refl in
    let here : LieInRegion regions.list.items (words_of call) index = (covered.region, stands, covered.inside) in (
      index,
      here,
      λ other there. elim (cases_order other index) [
        | inl same ↦ same
        | inr (inl before) ↦ absurd (not_in_two regions.list.items (words_of call) other index are.disjoint decided there here before)
        | inr (inr after) ↦ absurd (not_in_two regions.list.items (words_of call) index other are.disjoint decided here there after)
      ],
    )
