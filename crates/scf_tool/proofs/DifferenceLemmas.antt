-- What isn't listed of two sides is answered alike.
use Rattle.scf_compare.specs.Findings.{AllRelated, WordsRelated, compared_in}
use Rattle.scf_compare.specs.Leaves.{KnowsBoth, Tells}
use Rattle.scf_compare.specs.Regions.{IsCovered, IsDecidedRegion, IsRegion}
use Rattle.scf_facts.specs.WordSets.{AllowsWords}
use Rattle.scf_insn.proofs.CallWords.{call_of-words_of}
use Rattle.std.specs.Prelude.{All, IsSome, get_or}
use Rattle.std.specs.List.{filter}
use Rattle.std.proofs.lemmas.List.Elements.{All-filter, filter_passes}
use Rattle.scf_compare.specs.Sides.{AnswersFrom, Behavior}
use Rattle.scf_compare.specs.declared.comparison.PairLeaf.{PairLeaf}
use Rattle.scf_compare.specs.declared.region.Region.{Region}
use Rattle.scf_compare.specs.declared.regions.Regions.{Regions}
use Rattle.scf_insn.specs.Words.{IsRecord, words_of}
use Rattle.scf_insn.specs.declared.answer.Answer.{Answer}
use Rattle.scf_insn.specs.declared.record.CallRecord.{CallRecord}
use Rattle.scf_profile.proofs.Numbers.{contains_filtered}
use Rattle.scf_profile.specs.Scope.{IsInScope}
use Rattle.scf_profile.specs.declared.relation.Relation.TheVariants.{Same}
use Rattle.scf_profile.specs.declared.scope.Scope.{Scope}
use Rattle.scf_tool.proofs.Common.{Bool, IfSome, List, None, Option, Some, [], arith, false, inl, inr, not, refl, true, ℕ, ◌≡◌, ◌⊎◌}
use Rattle.scf_tool.specs.Explorations.{AreListed, HasDifference}
use Rattle.scf_tool.specs.RegionLines.{is_alike, listed_regions}
use Rattle.std.proofs.lemmas.Bool.{eqb-true}

module _ (left right : Behavior) (scope : Scope) (limit : ℕ) (all : Regions)
    (are : AreListed left right scope limit all) where
  -- the words that come to a leaf whose answers are alike are answered alike
  alike : (leaf : PairLeaf) (words : List ℕ) → is_alike leaf ≡ true → Tells left right leaf words
      → WordsRelated (compared_in Same scope left right) words
  alike leaf words same tells =
      by_answers leaf.left.answer leaf.right.answer same tells.0 tells.1
    where
      by_answers : (first second : Option Answer)
          → is_alike (record { left = record leaf.left { answer = first }; right = record leaf.right { answer = second } }) ≡ true
          → IfSome first (λ answer. AnswersFrom left leaf.left.origin words answer.0)
          → IfSome second (λ answer. AnswersFrom right leaf.right.origin words answer.0)
          → WordsRelated (compared_in Same scope left right) words
      by_answers None second e of_left of_right = absurd (cc)
      by_answers (Some first) None e of_left of_right = absurd (cc)
      by_answers (Some first) (Some second) e of_left of_right = record {
        left = first.0;
        right = second.0;
        of_left = of_left.0;
        of_right = of_right.0;
        are_related = eqb-true first.0 second.0 e;
      }

  -- a record of the scope that isn't answered alike lies in a region that is listed
  pub alike_or_listed : (call : CallRecord) → IsRecord call → IsInScope scope call
      → WordsRelated (compared_in Same scope left right) (words_of call)
      ⊎ IsCovered left right (listed_regions true all) (words_of call)
  alike_or_listed call is_record in_scope =
      by_region (are.are_regions.covered call is_record in_scope)
    where
      by_test : (covered : IsCovered left right all.list.items (words_of call)) (same : Bool)
          → is_alike covered.region.leaf ≡ same
          → WordsRelated (compared_in Same scope left right) (words_of call)
          ⊎ IsCovered left right (listed_regions true all) (words_of call)
      by_test covered true e = inl (alike covered.region.leaf (words_of call) e covered.answered)
      by_test covered false e = inr record {
        region = covered.region;
        listed = contains_filtered (λ (region : Region). not (is_alike region.leaf)) all.list.items covered.region
            (rw e refl) covered.listed;
        inside = covered.inside;
        answered = covered.answered;
      }

      by_region : IsCovered left right all.list.items (words_of call)
          → WordsRelated (compared_in Same scope left right) (words_of call)
          ⊎ IsCovered left right (listed_regions true all) (words_of call)
      by_region covered = by_test covered (is_alike covered.region.leaf) refl

  -- where no region is listed, every record of the scope is answered alike
  pub none_differ : listed_regions true all ≡ [] → AllRelated (compared_in Same scope left right)
  none_differ none call is_record in_scope = elim (alike_or_listed call is_record in_scope) [
    | inl related ↦ related
    | inr covered ↦ let listed = rw none at covered.listed in absurd (omega (arith, listed.1))
  ]

  -- a record that comes to a leaf with two answers that aren't alike
  difference_at : (region : Region) (call : CallRecord) → AllowsWords region.words (words_of call) → IsRecord call
      → IsInScope scope call → Tells left right region.leaf (words_of call) → KnowsBoth region.leaf
      → is_alike region.leaf ≡ false → HasDifference left right scope region
  difference_at region call inside is_record in_scope tells knows other =
      by_answers region.leaf.left.answer region.leaf.right.answer other knows tells.0 tells.1
    where
      by_answers : (first second : Option Answer)
          → is_alike (record { left = record region.leaf.left { answer = first }; right = record region.leaf.right { answer = second } }) ≡ false
          → IsSome first × IsSome second
          → IfSome first (λ answer. AnswersFrom left region.leaf.left.origin (words_of call) answer.0)
          → IfSome second (λ answer. AnswersFrom right region.leaf.right.origin (words_of call) answer.0)
          → HasDifference left right scope region
      by_answers None second e known of_left of_right = absurd (let no_left = known.0 in cc)
      by_answers (Some first) None e known of_left of_right = absurd (let no_right = known.1 in cc)
      by_answers (Some first) (Some second) e known of_left of_right = (
        call,
        first,
        second,
        inside,
        (is_record, in_scope, of_left.0, of_right.0, λ same. absurd (grind (arith, same, e))),
      )

  -- the record that a decided region shows is answered as it says
  difference_of : (region : Region) → IsRegion left right (IsInScope scope) region → IsDecidedRegion region
      → not (is_alike region.leaf) ≡ true → HasDifference left right scope region
  difference_of region is decided other = by_example region.example refl
    where
      by_example : (example : Option CallRecord) → region.example ≡ example → HasDifference left right scope region
      by_example None e = absurd (let shown = rw e at (is.exact decided.0).0 in cc)
      by_example (Some call) e =
          let shown = rw e at is.shown in
          let within = is.within (words_of call) shown.1 in
          difference_at region call shown.1 shown.0 (rw (call_of-words_of call shown.0) at within.1)
          ((is.exact decided.0).1 (words_of call) shown.1) decided.1 (grind (arith, other))

  -- each region that is listed of decided ones has a record that isn't answered alike
  pub each_differs : All IsDecidedRegion all.list.items → All (HasDifference left right scope) (listed_regions true all)
  each_differs decided = λ k d lt.
      let differs = λ (region : Region). not (is_alike region.leaf) in
      difference_of (get_or (filter differs all.list.items) k d)
      (All-filter differs (IsRegion left right (IsInScope scope)) all.list.items are.are_regions.each k d lt)
      (All-filter differs IsDecidedRegion all.list.items decided k d lt)
      (filter_passes differs all.list.items k d lt)
