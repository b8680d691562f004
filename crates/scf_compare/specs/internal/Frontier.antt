-- The open branches of a tree, and where the words are that are still to be seen.
use Rattle.std.specs.Prelude.{◌≡◌, ◌+◌, ◌<◌, ◌≤◌, ◌↔◌, ◌⊎◌, ◌++◌, ◌∷◌, [], ℕ, List, Bool, false, true, length, sum_by}
use Rattle.std.specs.Prelude.{IfSome, IsSome, Option, Some, None, if◌then◌else◌, nat_lt, slice_get}
use Rattle.scf_facts.specs.declared.word_facts.WordFacts.{Ghosts as Store}
use Rattle.scf_facts.specs.declared.atom.Atom.{Atom}
use Rattle.scf_facts.specs.Atoms.{atom_answer}
use Rattle.scf_facts.specs.Levels.{IsSameLevel}
use Rattle.scf_facts.specs.Masks.{KeepsAmong}
use Rattle.scf_compare.specs.declared.frontier.OpenBranch.{OpenBranch}
use Rattle.scf_compare.specs.declared.frontier.Frontier.{Frontier}
use Rattle.scf_compare.specs.internal.Trees.{IsAsked, Tree}

-- the words give this answer to what is asked, if anything is
abbrev pub GivesAnswer : Option Atom → Bool → List ℕ → Type 0
GivesAnswer None answer words = Unit {0}
GivesAnswer (Some atom) answer words = atom_answer atom words ≡ answer

-- facts still refute under bits of the masks alone where this answer is learned
abbrev pub LearnsAmong : ℕ → Option Atom → Bool → Type 0
LearnsAmong masks None answer = Unit {0}
LearnsAmong masks (Some atom) answer = KeepsAmong masks atom answer

-- A branch stands at a node of the tree, and what is asked is about some of the sixteen words.
pub record IsOpenBranch {K N : Type 0} (tree : K → Tree N) (branch : OpenBranch K N) : Type 0 where
  pub node : (tree branch.known).is_node branch.node
  pub asks : IsAsked branch.asked

-- the sizes of the open branches together
abbrev pub open_size : {F K N : Type 0} → (K → Tree N) → Frontier F K N → ℕ
open_size tree frontier = sum_by (λ branch. (tree branch.known).size branch.node) frontier.branches.items

module _ {F K N : Type 0} (store : Store F) (tree : K → Tree N) where
  -- The words are in an open branch: the facts allow them at its mark, the answer is no, and they come to its node.
  pub record IsInBranch (frontier : Frontier F K N) (words : List ℕ) : Type 0 where
    pub index : ℕ
    pub branch : OpenBranch K N
    pub stands : slice_get frontier.branches.items index ≡ Some branch
    pub allowed : store.allows frontier.facts index words
    pub given : GivesAnswer branch.asked false words
    pub reached : (tree branch.known).reaches branch.node words

  -- The words are still to be seen: they are in an open branch, or are allowed now and come on from here.
  abbrev pub IsAhead : Frontier F K N → (List ℕ → Type 0) → List ℕ → Type 0
  IsAhead frontier comes_on words =
      IsInBranch frontier words ⊎ (store.allows frontier.facts (store.level frontier.facts) words × comes_on words)

  -- Each open branch has an open mark at its own index, and no words are allowed, at a mark or now, but those of the
  -- scope.
  pub record IsFrontier (scope : List ℕ → Type 0) (frontier : Frontier F K N) : Type 0 where
    pub marks : store.level frontier.facts ≡ length frontier.branches.items
    pub branches : (index : ℕ) (branch : OpenBranch K N) → slice_get frontier.branches.items index ≡ Some branch
        → IsOpenBranch tree branch
    pub within : (level : ℕ) → level ≤ length frontier.branches.items
        → (words : List ℕ) → store.allows frontier.facts level words → scope words

  -- An open branch has facts at its mark that refute under bits of the masks alone, as they still do with the answer
  -- no, and its node is plain: all that is allowed there and gives that answer comes to it.
  pub record IsExactBranch (masks : ℕ) (frontier : Frontier F K N) (index : ℕ) (branch : OpenBranch K N) : Type 0 where
    pub facts : store.refutes_among frontier.facts index masks
    pub keeps : LearnsAmong masks branch.asked false
    pub plain : (tree branch.known).is_plain masks branch.node
    pub reached : (words : List ℕ) → store.allows frontier.facts index words → GivesAnswer branch.asked false words
        → (tree branch.known).reaches branch.node words

  -- each open branch is so
  abbrev pub AreExact : ℕ → Frontier F K N → Type 0
  AreExact masks frontier =
      (index : ℕ) (branch : OpenBranch K N) → slice_get frontier.branches.items index ≡ Some branch
      → IsExactBranch masks frontier index branch

  -- So is each open branch, the facts do so now, what comes is plain, and all that is allowed now comes on from here.
  pub record IsExact (masks : ℕ) (frontier : Frontier F K N) (is_plain : Type 0) (comes_on : List ℕ → Type 0) : Type 0
    where
      pub branches : AreExact masks frontier
      pub facts : store.refutes_among frontier.facts (store.level frontier.facts) masks
      pub plain : is_plain
      pub reached : (words : List ℕ) → store.allows frontier.facts (store.level frontier.facts) words
          → comes_on words

-- how many branches were open at the first test of a path that nothing decides, behind a branch on an atom, or on none
abbrev pub first_open_after : Option ℕ → Option Atom → ℕ → Option ℕ
first_open_after None None count = Some count
first_open_after first_open atom count = first_open

-- behind a branch that was taken, where so many others are still open
abbrev pub first_open_left : Option ℕ → ℕ → Option ℕ
first_open_left None count = None
first_open_left (Some first) count = if nat_lt count first then None else Some first

-- the branch at an index was opened where each test of its path was decided
abbrev pub IsBefore : Option ℕ → ℕ → Type 0
IsBefore first_open index = IfSome first_open (λ first. index < first)

module _ {F K N : Type 0} (store : Store F) (tree : K → Tree N) where
  -- Where each test of a path was decided, all words that are allowed come on: from here, and in each open branch those
  -- that give its answer.
  pub record IsWhole (frontier : Frontier F K N) (first_open : Option ℕ) (comes_on : List ℕ → Type 0) : Type 0 where
    pub few : IfSome first_open (λ first. first ≤ length frontier.branches.items)
    pub asked : (index : ℕ) (branch : OpenBranch K N) → slice_get frontier.branches.items index ≡ Some branch
        → IsBefore first_open index → IsSome branch.asked
    pub branches : (index : ℕ) (branch : OpenBranch K N) → slice_get frontier.branches.items index ≡ Some branch
        → IsBefore first_open index → (words : List ℕ) → store.allows frontier.facts index words
        → GivesAnswer branch.asked false words → (tree branch.known).reaches branch.node words
    -- behind an open branch the other answer was learned
    pub answered : (index : ℕ) (branch : OpenBranch K N) → slice_get frontier.branches.items index ≡ Some branch
        → (level : ℕ) → index < level → level ≤ length frontier.branches.items
        → (words : List ℕ) → store.allows frontier.facts level words → GivesAnswer branch.asked true words
    pub here : first_open ≡ None → (words : List ℕ)
        → store.allows frontier.facts (store.level frontier.facts) words → comes_on words

  -- The words are allowed in an open branch, or here, and each test of the path to it was decided.
  abbrev pub IsWhollyAhead : Frontier F K N → Option ℕ → List ℕ → Type 0
  IsWhollyAhead frontier first_open words =
      ((index : ℕ) × (branch : OpenBranch K N) × (slice_get frontier.branches.items index ≡ Some branch)
      × IsBefore first_open index × store.allows frontier.facts index words × GivesAnswer branch.asked false words)
      ⊎ ((first_open ≡ None) × store.allows frontier.facts (store.level frontier.facts) words)

  -- All words still come on, and none are ahead that weren't.
  abbrev pub StaysWhole : Frontier F K N → Frontier F K N → Option ℕ → Option ℕ → (List ℕ → Type 0) → Type 0
  StaysWhole old new before after comes_on = IsWhole new after comes_on
      × ((words : List ℕ) → IsWhollyAhead new after words → IsWhollyAhead old before words)

module _ {F K N : Type 0} (store : Store F) (old new : Frontier F K N) (branch : OpenBranch K N) where
  -- A branch was opened, and the answer yes was learned.
  pub record HasOpened : Type 0 where
    pub branches : new.branches.items ≡ old.branches.items ++ branch ∷ []
    pub marks : store.level new.facts ≡ store.level old.facts + 1
    pub levels : (index : ℕ) → index ≤ store.level old.facts
        → IsSameLevel store.allows store.is_exact store.refutes_among old.facts index new.facts index
    pub known : (words : List ℕ) → store.allows new.facts (store.level new.facts) words
        ↔ (store.allows old.facts (store.level old.facts) words × GivesAnswer branch.asked true words)
    pub among : (masks : ℕ) → LearnsAmong masks branch.asked true
        → store.refutes_among old.facts (store.level old.facts) masks
        → store.refutes_among new.facts (store.level new.facts) masks

  -- The newest branch was taken: its mark was undone, and what leads into it was learned.
  pub record HasTaken : Type 0 where
    pub branches : old.branches.items ≡ new.branches.items ++ branch ∷ []
    pub marks : store.level new.facts + 1 ≡ store.level old.facts
    pub levels : (index : ℕ) → index < store.level new.facts
        → IsSameLevel store.allows store.is_exact store.refutes_among old.facts index new.facts index
    pub known : (words : List ℕ) → store.allows new.facts (store.level new.facts) words
        ↔ (store.allows old.facts (store.level new.facts) words × GivesAnswer branch.asked false words)
    pub among : (masks : ℕ) → LearnsAmong masks branch.asked false
        → store.refutes_among old.facts (store.level new.facts) masks
        → store.refutes_among new.facts (store.level new.facts) masks
