-- From one stage of an exploration to the next.
use Rattle.scf_compare.proofs.Common.{inl, inr, Frontier, GoesOver, IsAhead, IsExact, IsFrontier, Store, Tree, ◌≡◌, ℕ, ◌+◌, ◌<◌, ◌≤◌, List, arith, IfSome, Option, None, IsWords-words_of, call_of-words_of, AllRelated, Finding, Which, AreWordsIn, Compared, IsFirstUndecided, WereSeen, finding_of_all, common_steps}
use Rattle.scf_compare.specs.internal.Stages.{IsExplored, IsFound}
use Rattle.scf_compare.specs.internal.Trees.{IsLaterNode, IsStep}
use Rattle.scf_compare.specs.internal.Leaves.{pair_leaves}
use Rattle.scf_compare.specs.declared.step.Step.TheVariants.{Next}

-- the relation holds of the answers to every record, once the words of each were seen and no leaf is undecided
pub all_related : (compared : Compared) (found : Option (Which × ℕ)) → found ≡ None
    → ((words : List ℕ) → AreWordsIn compared words → WereSeen compared found words) → AllRelated compared
all_related compared found none seen = grind (arith, common_steps, seen, IsWords-words_of, call_of-words_of)

-- what is explored once all was seen
pub of_all : (compared : Compared) (given : ℕ → Type 0) (steps limit effort : ℕ) (first : Option (Which × ℕ))
    → IfSome first (IsFirstUndecided compared) → (first ≡ None → AllRelated compared) → ((masks : ℕ) → given masks → first ≡ None)
    → 0 < steps → steps ≤ limit → steps ≤ effort
    → IsExplored compared given limit effort steps (finding_of_all steps first)
of_all compared given steps limit effort first index all known some within_limit within_effort = grind arith

-- and once a difference was found
pub of_found : (compared : Compared) (given : ℕ → Type 0) (steps limit effort : ℕ) (finding : Finding)
    → IsFound compared finding → 0 < steps → steps ≤ limit → steps ≤ effort
    → IsExplored compared given limit effort steps finding
of_found compared given steps limit effort finding found some within_limit within_effort = grind arith

-- At a later node that the allowed words come to, the same words are ahead, and what complete facts decide they still
-- decide.
module _ {F K N : Type 0} (store : Store F) (tree : K → Tree N) (frontier : Frontier F K N) (here : Tree N) (from : N)
    (there : Tree N) (to : N)
    (later : IsLaterNode (store.allows frontier.facts (store.level frontier.facts)) here from there to) where
  pub ahead_later : (words : List ℕ) → IsAhead store tree frontier (here.reaches from) words
      → IsAhead store tree frontier (there.reaches to) words
  ahead_later words (inl inside) = inl inside
  ahead_later words (inr (allowed, reached)) = inr (allowed, later.reached words allowed reached)

  pub exact_later : (masks : ℕ) → IsExact store tree masks frontier (here.is_plain masks from) (here.reaches from)
      → IsExact store tree masks frontier (there.is_plain masks to) (there.reaches to)
  exact_later masks exact = grind (arith, common_steps, later.plain, later.reached, exact.reached)

  -- a step to it goes over, and leaves the open branches as they are
  pub went_on : {compared : Compared} {was_seen : List ℕ → Type 0} → IsFrontier store tree (AreWordsIn compared) frontier
      → there.size to + 1 ≤ here.size from
      → GoesOver store compared tree frontier frontier here from there was_seen to
  went_on f costs = grind (arith, common_steps, ahead_later, exact_later)

-- and so does a step to an only node
pub stepped_on : {F K N : Type 0} {store : Store F} {compared : Compared} {tree : K → Tree N} {frontier : Frontier F K N}
    {here : Tree N} {from : N} {there : Tree N} {next : N} {was_seen : List ℕ → Type 0}
    → IsFrontier store tree (AreWordsIn compared) frontier
    → IsStep (pair_leaves compared) (store.allows frontier.facts (store.level frontier.facts)) here from there (Next next)
    → GoesOver store compared tree frontier frontier here from there was_seen next
stepped_on {store = store} {tree = tree} {frontier = frontier} {here = here} {from = from} {there = there} {next = next} f step =
    grind (arith, common_steps, went_on)
