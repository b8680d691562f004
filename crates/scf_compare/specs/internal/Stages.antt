-- From one stage of an exploration to the next.
use Rattle.std.specs.Prelude.{◌≡◌, ◌+◌, ◌≤◌, ◌⊎◌, ℕ, List, Option, Some, None, IfSome, IsSome, length}
use Rattle.scf_facts.specs.declared.atom.Atom.{Atom}
use Rattle.scf_facts.specs.Masks.{AreFew}
use Rattle.scf_facts.specs.declared.word_facts.WordFacts.{Ghosts as Store}
use Rattle.scf_compare.specs.declared.explore.Judged.{Judged}
use Rattle.scf_compare.specs.declared.explore.Judged.TheVariants.{Related, Fails as ShownBy, Open}
use Rattle.scf_compare.specs.declared.frontier.Stage.{Stage}
use Rattle.scf_compare.specs.declared.frontier.Stage.TheVariants.{At, AllSeen, Found}
use Rattle.scf_compare.specs.declared.frontier.Frontier.{Frontier}
use Rattle.scf_compare.specs.declared.finding.Finding.{Finding}
use Rattle.scf_compare.specs.declared.finding.Finding.TheVariants.{Holds, Fails, Undecided}
use Rattle.scf_compare.specs.declared.finding.Which.{Which}
use Rattle.scf_compare.specs.Findings.{AllRelated, AreSteps, Compared, IsFindingDecided, IsFindingWithin, IsTrueFinding, WordsRelated}
use Rattle.scf_compare.specs.declared.step.Step.TheVariants.{Branch}
use Rattle.scf_compare.specs.internal.Leaves.{AreWordsIn, IsFirstUndecided, WereSeen, pair_leaves}
use Rattle.scf_compare.specs.internal.Frontier.{IsAhead, IsFrontier, IsExact, IsWhole, IsWhollyAhead}
use Rattle.scf_compare.specs.internal.Frontier.{StaysWhole, first_open_after, first_open_left, open_size}
use Rattle.scf_compare.specs.internal.Trees.{IsStep, Tree}

-- a difference that was found: it is true, and so the relation doesn't hold of all
abbrev pub IsFound : Compared → Finding → Type 0
IsFound compared (Fails call left right) =
    IsTrueFinding compared (Fails call left right) × (AllRelated compared → ⊥)
IsFound compared finding = ⊥

-- a finding decides whether a claim holds, unless it is Undecided
abbrev pub DecidesIfKnown : Type 0 → ℕ → ℕ → Finding → Type 0
DecidesIfKnown claim limit effort (Undecided side at) = Unit {0}
DecidesIfKnown claim limit effort finding = IsFindingDecided claim limit effort finding

-- A finding of so many steps is true, within a limit and an effort, and decides if it is known, or if this is given of
-- some masks.
pub record IsExplored (compared : Compared) (given : ℕ → Type 0) (limit effort taken : ℕ) (finding : Finding)
    : Type 0 where
  pub holds : IsTrueFinding compared finding
  pub within : IsFindingWithin limit effort finding
  pub steps : AreSteps limit effort finding taken
  pub decided : (masks : ℕ) → given masks → IsFindingDecided (AllRelated compared) limit effort finding
  pub known : DecidesIfKnown (AllRelated compared) limit effort finding

-- the finding once all was seen, in so many steps
abbrev pub finding_of_all : ℕ → Option (Which × ℕ) → Finding
finding_of_all steps (Some first) = Undecided first.0 first.1
finding_of_all steps None = Holds steps

-- what is found of the words that have come to a leaf
abbrev pub IsJudged : Compared → (List ℕ → Type 0) → Judged → Type 0
IsJudged compared have_come Related = (words : List ℕ) → have_come words → WordsRelated compared words
IsJudged compared have_come (ShownBy finding) = IsFound compared finding
IsJudged compared have_come Open = Unit {0}

-- The tree at a node is the one for what is known there.
module _ {F K N : Type 0} (store : Store F) (compared : Compared) (tree : K → Tree N) (old new : Frontier F K N)
    (here : Tree N) (from : N) (there : Tree N) (was_seen : List ℕ → Type 0) where
  -- A step goes from one node to another: the words that were ahead still are, or were seen; at least one step fewer is
  -- left; and what complete facts decide they still decide.
  pub record GoesOver (next : N) : Type 0 where
    pub frontier : IsFrontier store tree (AreWordsIn compared) new
    pub node : there.is_node next
    pub words : (words : List ℕ) → IsAhead store tree old (here.reaches from) words
        → was_seen words ⊎ IsAhead store tree new (there.reaches next) words
    pub size : open_size tree new + there.size next + 1 ≤ open_size tree old + here.size from
    pub exact : (masks : ℕ) → IsExact store tree masks old (here.is_plain masks from) (here.reaches from)
        → IsExact store tree masks new (there.is_plain masks next) (there.reaches next)

  -- what a stage says that comes after a node
  abbrev pub IsStageAfter : Stage N → Type 0
  IsStageAfter (At next) = GoesOver next
  IsStageAfter AllSeen =
      (words : List ℕ) → IsAhead store tree old (here.reaches from) words → was_seen words
  IsStageAfter (Found finding) = IsFound compared finding

-- All words still come on from a stage that is at a node, and none that were allowed before are ahead.
abbrev pub IsWholeStage : {F K N : Type 0} → Store F → (K → Tree N) → Frontier F K N → Frontier F K N → Option ℕ
    → Tree N → Stage N → Type 0
IsWholeStage store tree old new before there (At next) =
    let after = first_open_left before (length new.branches.items) in
    StaysWhole store tree old new before after (there.reaches next)
    × (before ≡ None → (words : List ℕ) → store.allows old.facts (store.level old.facts) words
    → IsWhollyAhead store tree new after words → ⊥)
IsWholeStage store tree old new before there AllSeen = Unit {0}
IsWholeStage store tree old new before there (Found finding) = Unit {0}

-- a stage is at no finding
abbrev pub FindsNothing : {N : Type 0} → Stage N → Type 0
FindsNothing (At next) = Unit {0}
FindsNothing AllSeen = Unit {0}
FindsNothing (Found finding) = ⊥

-- What is so after the words at a leaf were seen: the newest branch was taken, unless none was open.
pub record IsAfterLeaf {F K N : Type 0} (store : Store F) (compared : Compared) (tree : K → Tree N)
    (old new : Frontier F K N) (known : K) (stage : Stage N) : Type 0 where
  pub explores : (before : K) (from : N) → IsStageAfter store compared tree old new (tree before) from (tree known)
      (λ words. store.allows old.facts (store.level old.facts) words × (tree before).reaches from words) stage
  pub whole : (before : K) (from : N) (first_open : Option ℕ)
      → IsWhole store tree old first_open ((tree before).reaches from)
      → IsWholeStage store tree old new first_open (tree known) stage
  pub nothing : FindsNothing stage

-- What is so after a test whose step leads to two nodes: it goes on to one of them, where the store knows the answer,
-- or to the first, with a branch opened for the other.
pub record IsAfterTest {F K N : Type 0} (store : Store F) (compared : Compared) (tree : K → Tree N)
    (old new : Frontier F K N) (known : K) (atom : Option Atom) (if_true if_false next : N) : Type 0 where
  pub goes : (before : K) (from : N)
      → IsStep (pair_leaves compared) (store.allows old.facts (store.level old.facts)) (tree before) from (tree known)
      (Branch atom if_true if_false)
      → GoesOver store compared tree old new (tree before) from (tree known) (λ words. ⊥) next
  pub whole : (before : K) (from : N) (first_open : Option ℕ)
      → IsStep (pair_leaves compared) (store.allows old.facts (store.level old.facts)) (tree before) from (tree known)
      (Branch atom if_true if_false)
      → IsWhole store tree old first_open ((tree before).reaches from)
      → let after = first_open_after first_open atom (length old.branches.items) in
      StaysWhole store tree old new first_open after ((tree known).reaches next)

-- A step of the first walk: it comes to a stage, keeps the first undecided leaf, if there was one, and finds none where
-- complete facts decide all.
pub record IsAdvanced {F K N : Type 0} (store : Store F) (compared : Compared) (tree : K → Tree N)
    (old new : Frontier F K N) (here : Tree N) (from : N) (there : Tree N) (first_undecided now : Option (Which × ℕ))
    (stage : Stage N) : Type 0 where
  pub explores : IsStageAfter store compared tree old new here from there (WereSeen compared now) stage
  pub index : IfSome now (IsFirstUndecided compared)
  pub kept : IsSome first_undecided → now ≡ first_undecided
  pub exact : (masks : ℕ) → AreFew masks
      → IsExact store tree masks old (here.is_plain masks from) (here.reaches from) → now ≡ first_undecided
