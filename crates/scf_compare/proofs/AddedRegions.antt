-- Regions, as one more is added.
use Rattle.std.specs.Prelude.{AllPairs}
use Rattle.std.proofs.lemmas.List.Elements.{Contains-append_left, Contains-push}
use Rattle.std.proofs.lemmas.List.Quantifiers.{all_pairs_push}
use Rattle.scf_insn.proofs.Common.{words_of}
use Rattle.scf_facts.specs.WordSets.{AllowsWords}
use Rattle.scf_compare.proofs.Common.{[], ◌∷◌, ◌++◌, ◌≡◌, ℕ, List, Bool, Option, None, IsTrue, IfSome_then, inl, inr, length, All, All-push, AreWordsIn, CallRecord, Compared, Frontier, Store, Tree, common_steps, arith}
use Rattle.scf_compare.specs.declared.comparison.PairLeaf.{PairLeaf}
use Rattle.scf_compare.specs.declared.frontier.Stage.{Stage}
use Rattle.scf_compare.specs.declared.frontier.Stage.TheVariants.{At, AllSeen, Found}
use Rattle.scf_compare.specs.declared.region.Region.{Region}
use Rattle.scf_compare.specs.Regions.{AreDisjoint, IsCovered, IsRegion}
use Rattle.scf_compare.specs.Leaves.{IsLeaf, Tells}
use Rattle.scf_compare.specs.Sides.{Behavior}
use Rattle.scf_compare.specs.internal.Frontier.{IsWhollyAhead, first_open_left}
use Rattle.scf_compare.specs.internal.Regions.{AreRegionsAt, AreRegionsSoFar, IsAdded, IsRegionOf}
use Rattle.scf_compare.specs.internal.Stages.{FindsNothing, IsWholeStage}

-- what was covered still is
pub still_covered : (left right : Behavior) (allowed : List ℕ → Type 0) (leaf : PairLeaf) (is_whole : Bool)
    (old new : List Region) → IsAdded allowed leaf is_whole old new
    → (words : List ℕ) → IsCovered left right old words → IsCovered left right new words
still_covered left right allowed leaf is_whole old new (inl (same, none)) words covered = rw same covered
still_covered left right allowed leaf is_whole old new (inr (region, is, more)) words covered =
    grind (arith, common_steps, Contains-append_left)

-- and what is allowed at the leaf is, where its answers are told
pub now_covered : (left right : Behavior) (allowed : List ℕ → Type 0) (leaf : PairLeaf) (is_whole : Bool)
    (old new : List Region) → IsAdded allowed leaf is_whole old new
    → (words : List ℕ) → allowed words → Tells left right leaf words → IsCovered left right new words
now_covered left right allowed leaf is_whole old new (inl (same, none)) words at tells = absurd (none words at)
now_covered left right allowed leaf is_whole old new (inr (region, is, more)) words at tells = record {
  region = region;
  listed = rw more (Contains-push old region);
  inside = (is.words words).1 at;
  answered = rw is.same_leaf tells;
}

module _ {F K N : Type 0} (store : Store F) (compared : Compared) (tree : K → Tree N) (old : Frontier F K N)
    (first : Option ℕ) (regions : List Region) (before : AreRegionsSoFar store compared tree old first regions) where
  -- regions stay what they are where nothing more is ahead
  pub no_more_ahead : (new : Frontier F K N) (after : Option ℕ)
      → ((words : List ℕ) → IsWhollyAhead store tree new after words → IsWhollyAhead store tree old first words)
      → AreRegionsSoFar store compared tree new after regions
  no_more_ahead new after fewer = record {
    each = before.each;
    disjoint = before.disjoint;
    left = λ k d lt exact words inside ahead. before.left k d lt exact words inside (fewer words ahead);
  }

  module _ (leaf : PairLeaf) (is_whole : Bool) (is_leaf : IsLeaf compared.left compared.right leaf)
      (scope : (words : List ℕ) → store.allows old.facts (store.level old.facts) words → AreWordsIn compared words)
      (decided : IsTrue is_whole → first ≡ None)
      (tells : IsTrue is_whole → (words : List ℕ) → store.allows old.facts (store.level old.facts) words
      → Tells compared.left compared.right leaf words) where
    is_region : (region : Region) → IsRegionOf (store.allows old.facts (store.level old.facts)) leaf is_whole region
        → IsRegion compared.left compared.right compared.in_scope region
    is_region region is = record {
      within = λ words inside. scope words ((is.words words).0 inside);
      shown = IfSome_then region.example is.shown
          (λ (call : CallRecord) shown. (shown.0, (is.words (words_of call)).1 shown.1));
      ends = rw is.same_leaf is_leaf;
      exact = λ exact.
          let given = is.exact exact in
          (given.1, λ words inside. rw is.same_leaf (tells given.0 words ((is.words words).0 inside)));
    }

    one_more : (region : Region) → IsRegionOf (store.allows old.facts (store.level old.facts)) leaf is_whole region
        → All (IsRegion compared.left compared.right compared.in_scope) (regions ++ region ∷ [])
        × AllPairs AreDisjoint (regions ++ region ∷ [])
    one_more region is = (
      All-push (IsRegion compared.left compared.right compared.in_scope) regions region before.each (is_region region is),
      all_pairs_push AreDisjoint regions region before.disjoint
          (λ k d lt exact new_exact words inside new_inside. before.left k d lt exact words inside
          (inr (decided (is.exact new_exact).0, (is.words words).0 new_inside))),
    )

    -- the regions of the stage that comes after a leaf
    pub after_leaf : (new : Frontier F K N) (after : Option ℕ) (more : List Region) (there : Tree N) (stage : Stage N)
        → IsAdded (store.allows old.facts (store.level old.facts)) leaf is_whole regions more
        → after ≡ first_open_left first (length new.branches.items)
        → IsWholeStage store tree old new first there stage → FindsNothing stage
        → AreRegionsAt store compared tree new after more there stage
    after_leaf new after more there (At next) (inl (same, none)) is (stays, gone) finds =
        rw (same, is) (no_more_ahead new (first_open_left first (length new.branches.items)) stays.1, stays.0)
    after_leaf new after more there (At next) (inr (region, is_of, added)) is (stays, gone) finds =
        let both = one_more region is_of in
        let left = first_open_left first (length new.branches.items) in
        rw (added, is) (
          record {
            each = both.0;
            disjoint = both.1;
            left = All-push (λ (r : Region). IsTrue r.is_exact → (words : List ℕ) → AllowsWords r.words words
                → IsWhollyAhead store tree new left words → ⊥) regions region
                (no_more_ahead new left stays.1).left
                (λ exact words inside. gone (decided (is_of.exact exact).0) words ((is_of.words words).0 inside));
          },
          stays.0,
        )
    after_leaf new after more there AllSeen (inl (same, none)) is whole finds = rw same (before.each, before.disjoint)
    after_leaf new after more there AllSeen (inr (region, is_of, added)) is whole finds =
        rw added (one_more region is_of)
    after_leaf new after more there (Found finding) added is whole finds = absurd finds
