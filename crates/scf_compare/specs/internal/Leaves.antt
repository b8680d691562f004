-- What the leaves of trees tell.
use Rattle.std.specs.Prelude.{◌≡◌, ◌⊎◌, ℕ, List, Option, None, Some, IfSome, IsSome}
use Rattle.scf_insn.specs.Words.{IsWords, call_of}
use Rattle.scf_insn.specs.declared.answer.Answer.{Answer}
use Rattle.scf_compare.specs.declared.comparison.PairLeaf.{PairLeaf}
use Rattle.scf_compare.specs.declared.finding.Finding.{Finding}
use Rattle.scf_compare.specs.declared.finding.Finding.TheVariants.{Undecided}
use Rattle.scf_compare.specs.declared.finding.Which.{Which}
use Rattle.scf_compare.specs.declared.finding.Which.TheVariants.{Left, Right}
use Rattle.scf_compare.specs.declared.side_tree.SideLeaf.{SideLeaf}
use Rattle.scf_compare.specs.Findings.{Compared, IsOpenEnd, WordsRelated}
use Rattle.scf_compare.specs.Leaves.{IsLeaf, IsSideLeaf, KnowsAnswer, KnowsBoth, SideTells, Tells}
use Rattle.scf_compare.specs.Sides.{AnswersFrom, Behavior, origin_index}
use Rattle.scf_compare.specs.internal.Trees.{Leaves}

-- the words of a call record of the scope
abbrev pub AreWordsIn : Compared → List ℕ → Type 0
AreWordsIn compared words = IsWords words × compared.in_scope (call_of words)

-- the leaves of a side's tree
abbrev pub side_leaves : Behavior → Leaves SideLeaf
side_leaves behavior = record {
  is_leaf = IsSideLeaf behavior;
  tells = SideTells (AnswersFrom behavior);
  tells_all = KnowsAnswer;
}

-- the leaves of a comparison's tree
abbrev pub pair_leaves : Compared → Leaves PairLeaf
pair_leaves compared = record {
  is_leaf = IsLeaf compared.left compared.right;
  tells = Tells compared.left compared.right;
  tells_all = KnowsBoth;
}

-- the words have no other answer
abbrev pub IsOnlyAnswer : (List ℕ → ℕ → Type 0) → List ℕ → ℕ → Type 0
IsOnlyAnswer answers words answer = (other : ℕ) → answers words other → other ≡ answer

-- the side and the instruction of an undecided leaf
abbrev pub IsFirstUndecided : Compared → Which × ℕ → Type 0
IsFirstUndecided compared first = IsOpenEnd compared first.0 first.1

-- where an undecided leaf is told to be: on the left side, unless the right one's answer alone isn't known
abbrev pub end_of : Option Answer → Option Answer → ℕ → ℕ → Which × ℕ
end_of (Some known) None of_left of_right = (Right, of_right)
end_of left right of_left of_right = (Left, of_left)

abbrev pub told_end : PairLeaf → Which × ℕ
told_end leaf =
    end_of leaf.left.answer leaf.right.answer (origin_index leaf.left.origin) (origin_index leaf.right.origin)

-- A leaf is undecided: an answer isn't known there, or the two aren't related.
abbrev pub IsUndecidedLeaf : Compared → PairLeaf → Type 0
IsUndecidedLeaf compared leaf =
    IfSome leaf.left.answer (λ left. IfSome leaf.right.answer (λ right. compared.related left.0 right.0 → ⊥))

-- Words that were seen: their answers are related, or an undecided leaf was found.
abbrev pub WereSeen : Compared → Option (Which × ℕ) → List ℕ → Type 0
WereSeen compared found words = WordsRelated compared words ⊎ IsSome found

-- a finding that can be a verdict on a filter, which is the left side, and a profile
abbrev pub IsOnTheLeft : Finding → Type 0
IsOnTheLeft (Undecided Right at) = ⊥
IsOnTheLeft finding = Unit {0}
