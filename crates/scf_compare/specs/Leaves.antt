-- What the leaves of the trees of one side, and of two, say of the words that come to them.
use Rattle.std.specs.Prelude.{ℕ, List, IfNone, IfSome, IsSome}
use Rattle.scf_compare.specs.declared.comparison.PairLeaf.{PairLeaf}
use Rattle.scf_compare.specs.declared.origin.Origin.{Origin}
use Rattle.scf_compare.specs.declared.side_tree.SideLeaf.{SideLeaf}
use Rattle.scf_compare.specs.Sides.{AnswersFrom, Behavior, origin_index}

-- a leaf of a side's tree tells its answer to words, where it knows it, and its origin
abbrev pub SideTells : (Origin → List ℕ → ℕ → Type 0) → SideLeaf → List ℕ → Type 0
SideTells answers leaf words = IfSome leaf.answer (λ answer. answers leaf.origin words answer.0)

-- a leaf of a side's tree knows its answer
abbrev pub KnowsAnswer : SideLeaf → Type 0
KnowsAnswer leaf = IsSome leaf.answer

-- a leaf is where the side ends, and may be open there if it doesn't know its answer
abbrev pub IsSideLeaf : Behavior → SideLeaf → Type 0
IsSideLeaf side leaf =
    let at = origin_index leaf.origin in side.ends_at at × IfNone leaf.answer (side.is_open_at at)

-- a leaf of the tree of two sides tells what both answer
abbrev pub Tells : Behavior → Behavior → PairLeaf → List ℕ → Type 0
Tells left right leaf words =
    SideTells (AnswersFrom left) leaf.left words × SideTells (AnswersFrom right) leaf.right words

-- it is where both end
abbrev pub IsLeaf : Behavior → Behavior → PairLeaf → Type 0
IsLeaf left right leaf = IsSideLeaf left leaf.left × IsSideLeaf right leaf.right

-- it knows both answers
abbrev pub KnowsBoth : PairLeaf → Type 0
KnowsBoth leaf = KnowsAnswer leaf.left × KnowsAnswer leaf.right
