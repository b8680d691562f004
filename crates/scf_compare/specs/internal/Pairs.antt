-- Two sides as one tree: the left side is asked first, and the right one at each leaf of its tree, from where it has
-- come by then.
use Rattle.std.specs.Prelude.{◌*◌, ℕ, List}
use Rattle.scf_insn.specs.Words.{IsWords}
use Rattle.scf_compare.specs.declared.pair.PairKnown.{PairKnown}
use Rattle.scf_compare.specs.declared.pair.PairNode.{PairNode}
use Rattle.scf_compare.specs.declared.pair.PairNode.TheVariants.{AtLeft, AtRight}
use Rattle.scf_compare.specs.declared.side_tree.SideLeaf.{SideLeaf}
use Rattle.scf_compare.specs.declared.step.Step.{Step}
use Rattle.scf_compare.specs.declared.step.Step.TheVariants.{Next}
use Rattle.scf_compare.specs.Findings.{Compared}
use Rattle.scf_compare.specs.Sides.{AnswersFrom}
use Rattle.scf_compare.specs.Leaves.{IsSideLeaf, KnowsAnswer, SideTells}
use Rattle.scf_compare.specs.internal.Leaves.{side_leaves}
use Rattle.scf_compare.specs.internal.Trees.{Tree, pending_tree}

module _ {M B : Type 0} (compared : Compared) (right : M → Tree B) where
  -- the right tree, by its pending steps
  abbrev pub right_tree : M → Tree (Step B SideLeaf)
  right_tree known = pending_tree (side_leaves compared.right) (right known)

  -- the right tree behind a leaf of the left one
  abbrev pub tree_behind : M → SideLeaf → Tree (Step B SideLeaf)
  tree_behind known leaf = record {
    is_node = λ step. IsSideLeaf compared.left leaf × (right_tree known).is_node step;
    reaches = λ step words. IsWords words × SideTells (AnswersFrom compared.left) leaf words
        × (right_tree known).reaches step words;
    size = (right_tree known).size;
    is_plain = λ masks step. KnowsAnswer leaf × (right_tree known).is_plain masks step;
  }

module _ {K M A B : Type 0} (compared : Compared) (left : K → Tree A) (right : M → Tree B) where
  -- the right tree while the left one is asked
  abbrev pub ahead_tree : PairKnown K M B → Tree (Step B SideLeaf)
  ahead_tree known = right_tree compared right known.right

  abbrev pub pair_is_node : PairKnown K M B → PairNode A B → Type 0
  pair_is_node known (AtLeft node) = (left known.left).is_node node × (ahead_tree known).is_node known.ahead
  pair_is_node known (AtRight leaf node) = (tree_behind compared right known.right leaf).is_node (Next node)

  abbrev pub pair_reaches : PairKnown K M B → PairNode A B → List ℕ → Type 0
  pair_reaches known (AtLeft node) words =
      IsWords words × (left known.left).reaches node words × (ahead_tree known).reaches known.ahead words
  pair_reaches known (AtRight leaf node) words = (tree_behind compared right known.right leaf).reaches (Next node) words

  -- each leaf of the left tree has behind it what is left of the right tree
  abbrev pub pair_size : PairKnown K M B → PairNode A B → ℕ
  pair_size known (AtLeft node) = (left known.left).size node * (ahead_tree known).size known.ahead
  pair_size known (AtRight leaf node) = (right known.right).size node

  abbrev pub pair_is_plain : PairKnown K M B → ℕ → PairNode A B → Type 0
  pair_is_plain known masks (AtLeft node) =
      (left known.left).is_plain masks node × (ahead_tree known).is_plain masks known.ahead
  pair_is_plain known masks (AtRight leaf node) =
      (tree_behind compared right known.right leaf).is_plain masks (Next node)

  -- the tree, for what is known at the nodes of both sides
  abbrev pub pair_tree : PairKnown K M B → Tree (PairNode A B)
  pair_tree known = record {
    is_node = pair_is_node known;
    reaches = pair_reaches known;
    size = pair_size known;
    is_plain = pair_is_plain known;
  }
