-- The second walk of a comparison's tree, which begins at the root again with each split.
use Rattle.std.specs.Prelude.{◌≡◌, ◌+◌, ◌*◌, ◌≤◌, ◌^◌, ◌⊎◌, ℕ, List, Option, None, IfSome, IsSome}
use Rattle.scf_facts.specs.declared.bits.Bits.{Bits}
use Rattle.scf_facts.specs.declared.word_facts.WordFacts.{Ghosts as Store}
use Rattle.scf_compare.specs.declared.budget.Limit.{Limit}
use Rattle.scf_compare.specs.declared.budget.Splits.TheVariants.{NoLimit}
use Rattle.scf_compare.specs.declared.finding.Finding.{Finding}
use Rattle.scf_compare.specs.declared.finding.Finding.TheVariants.{Holds}
use Rattle.scf_compare.specs.declared.frontier.Frontier.{Frontier}
use Rattle.scf_compare.specs.declared.frontier.Stage.{Stage}
use Rattle.scf_compare.specs.declared.settling.SettlingNode.{SettlingNode}
use Rattle.scf_compare.specs.Findings.{AllRelated, Compared}
use Rattle.scf_compare.specs.Splits.{HaveBits, open_bits}
use Rattle.scf_compare.specs.internal.Leaves.{WereSeen}
use Rattle.scf_compare.specs.internal.Stages.{IsFound, IsStageAfter}
use Rattle.scf_compare.specs.internal.Trees.{Tree}

-- How much a step counts where these bits are fixed: more than two walks of the whole tree with one bit more.
abbrev pub weight : ℕ → List Bits → ℕ
weight effort fixed = (2 * effort + 1) ^ open_bits fixed

-- A comparison's tree with the bits that splits have fixed: the words that come to a node have them.
abbrev pub settling_tree : {N : Type 0} → ℕ → Tree N → Tree (SettlingNode N)
settling_tree effort tree = record {
  is_node = λ at. tree.is_node at.node;
  reaches = λ at words. tree.reaches at.node words × HaveBits at.fixed.words words;
  size = λ at. tree.size at.node * weight effort at.fixed.words;
  is_plain = λ masks at. ⊥;
}

-- the trees of a comparison, given what is known at their nodes, with these bits, and a root
abbrev pub settling_trees : {K N : Type 0} → (K → Tree N) → K → N → K → Tree (SettlingNode N)
settling_trees tree start root known = settling_tree ((tree start).size root) (tree known)

-- all words of the scope come to the root
pub record StartsAt {N : Type 0} (scope : List ℕ → Type 0) (tree : Tree N) (root : N) : Type 0 where
  pub node : tree.is_node root
  pub reached : (words : List ℕ) → scope words → tree.reaches root words

-- the second walk decides: it finds, after so many steps of the first one, that the relation holds, or a difference
abbrev pub IsSettled : Compared → ℕ → Finding → Type 0
IsSettled compared steps finding = ((finding ≡ Holds steps) × AllRelated compared) ⊎ IsFound compared finding

-- What a second walk leaves of a budget, and its finding, which it has where splits have no limit.
pub record IsSecondWalk (compared : Compared) (steps : ℕ) (budget : Limit) (left : ℕ) (finding : Option Finding)
    : Type 0 where
  pub settled : IfSome finding (IsSettled compared steps)
  pub unlimited : budget.splits ≡ NoLimit → IsSome finding
  pub leaves : left ≤ budget.steps

-- A step of the second walk comes to a stage of the exploration, if it has the splits. Steps are counted elsewhere.
pub record IsWalkedOn {F K N : Type 0} (store : Store F) (compared : Compared) (tree : K → Tree N) (start : K)
    (root : N) (old new : Frontier F K (SettlingNode N)) (before : K) (from : SettlingNode N) (known : K)
    (budget left : Limit) (stage : Option (Stage (SettlingNode N))) : Type 0 where
  pub explores : let trees = settling_trees tree start root in
      IfSome stage (IsStageAfter store compared trees old new (trees before) from (trees known)
      (WereSeen compared None))
  pub unlimited : budget.splits ≡ NoLimit → (left.splits ≡ NoLimit) × IsSome stage
  pub steps : left.steps ≡ budget.steps
