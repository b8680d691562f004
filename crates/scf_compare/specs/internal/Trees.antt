-- Trees of questions about the words of a call record.
use Rattle.std.specs.Prelude.{◌≡◌, ◌+◌, ◌<◌, ◌≤◌, ◌⊎◌, ℕ, List, Option, None, Some, true, false}
use Rattle.scf_facts.specs.declared.atom.Atom.{Atom}
use Rattle.scf_facts.specs.Atoms.{atom_answer, word_of}
use Rattle.scf_compare.specs.declared.step.Step.{Step}
use Rattle.scf_compare.specs.declared.step.Step.TheVariants.{Next, Branch, Leaf}
use Rattle.scf_compare.specs.internal.Asking.{KeepsEither}

-- A tree by its nodes: which there are, which words come to one, how many steps it takes to see all from one on, and
-- which are plain but for masks: facts that refute under few bits of these decide all from one of these on.
pub record Tree (N : Type 0) : Type 1 where
  pub is_node : N → Type 0
  pub reaches : N → List ℕ → Type 0
  pub size : N → ℕ
  pub is_plain : ℕ → N → Type 0

-- what is asked, if anything is, is about some of the sixteen words
abbrev pub IsAsked : Option Atom → Type 0
IsAsked None = Unit {0}
IsAsked (Some atom) = word_of atom < 16

-- words for which the atom is true come to the first, others to the second; without an atom they may come to either
abbrev pub GoesEither : Option Atom → List ℕ → Type 0 → Type 0 → Type 0
GoesEither None words first second = first ⊎ second
GoesEither (Some atom) words first second =
    (atom_answer atom words ≡ true → first) × (atom_answer atom words ≡ false → second)

-- something is asked, and facts still refute under bits of the masks alone with either answer
abbrev pub KeepsAsked : ℕ → Option Atom → Type 0
KeepsAsked masks None = ⊥
KeepsAsked masks (Some atom) = KeepsEither masks atom

-- A step leads to nodes of the tree, and asks of some of the sixteen words.
abbrev pub IsProper : {N E : Type 0} → Tree N → (E → Type 0) → Step N E → Type 0
IsProper tree is_leaf (Next next) = tree.is_node next
IsProper tree is_leaf (Branch atom if_true if_false) = IsAsked atom × tree.is_node if_true × tree.is_node if_false
IsProper tree is_leaf (Leaf leaf) = is_leaf leaf

-- The words go on from a step, and what a leaf tells is true of them.
abbrev pub GoesOn : {N E : Type 0} → Tree N → (E → List ℕ → Type 0) → Step N E → List ℕ → Type 0
GoesOn tree tells (Next next) words = tree.reaches next words
GoesOn tree tells (Branch atom if_true if_false) words =
    GoesEither atom words (tree.reaches if_true words) (tree.reaches if_false words)
GoesOn tree tells (Leaf leaf) words = tells leaf words

-- how many steps it takes to see all behind a step
abbrev pub step_size : {N E : Type 0} → Tree N → Step N E → ℕ
step_size tree (Next next) = tree.size next
step_size tree (Branch atom if_true if_false) = tree.size if_true + tree.size if_false
step_size tree (Leaf leaf) = 0

-- One step, and then what is seen behind it, are within a size.
abbrev pub Costs : {N E : Type 0} → Tree N → Step N E → ℕ → Type 0
Costs tree step size = step_size tree step + 1 ≤ size

-- The step of a plain node: an atom decides, and facts still refute under bits of the masks alone with its answer; the
-- next nodes are plain, and a leaf tells all.
abbrev pub StaysPlain : {N E : Type 0} → Tree N → (E → Type 0) → ℕ → Step N E → Type 0
StaysPlain tree tells_all masks (Next next) = tree.is_plain masks next
StaysPlain tree tells_all masks (Branch atom if_true if_false) =
    KeepsAsked masks atom × tree.is_plain masks if_true × tree.is_plain masks if_false
StaysPlain tree tells_all masks (Leaf leaf) = tells_all leaf

-- Which leaves a tree has, what one tells of the words that come to it, and which tell all that is asked.
pub record Leaves (E : Type 0) : Type 1 where
  pub is_leaf : E → Type 0
  pub tells : E → List ℕ → Type 0
  pub tells_all : E → Type 0

-- A step at a node, for what is known here, and the tree for what is known there, where the step goes on: it leads to
-- nodes, given words that come to the node go on, one step and what is behind it are within the node's size, and from a
-- plain node all stays plain.
pub record IsStep {M N E : Type 0} (leaves : Leaves E) (given : List ℕ → Type 0) (here : Tree M) (node : M)
    (there : Tree N) (step : Step N E) : Type 0 where
  pub proper : IsProper there leaves.is_leaf step
  pub leads : (words : List ℕ) → given words → here.reaches node words → GoesOn there leaves.tells step words
  pub costs : Costs there step (here.size node)
  pub plain : (masks : ℕ) → here.is_plain masks node → StaysPlain there leaves.tells_all masks step

-- how many steps it takes to see all from a step on that isn't gone on from yet
abbrev pub pending_size : {N E : Type 0} → Tree N → Step N E → ℕ
pending_size tree (Next next) = tree.size next
pending_size tree (Branch atom if_true if_false) = tree.size if_true + tree.size if_false + 1
pending_size tree (Leaf leaf) = 1

-- A tree whose nodes are pending steps: a step to a node stands for that node, another one for the node that it is of.
abbrev pub pending_tree : {N E : Type 0} → Leaves E → Tree N → Tree (Step N E)
pending_tree leaves tree = record {
  is_node = IsProper tree leaves.is_leaf;
  reaches = GoesOn tree leaves.tells;
  size = pending_size tree;
  is_plain = StaysPlain tree leaves.tells_all;
}

-- The given words that come to a node come to a later one, where more may be known.
pub record IsLaterNode {N : Type 0} (given : List ℕ → Type 0) (here : Tree N) (from : N) (there : Tree N) (to : N)
    : Type 0 where
  pub node : there.is_node to
  pub reached : (words : List ℕ) → given words → here.reaches from words → there.reaches to words
  pub size : there.size to ≤ here.size from
  pub plain : (masks : ℕ) → here.is_plain masks from → there.is_plain masks to
