-- A stack of filters as a tree of questions: the filters are asked one after another, the oldest first.
use Rattle.std.specs.Prelude.{◌≡◌, ◌+◌, ◌*◌, ◌<◌, ℕ, List, [], ◌∷◌, Option, Some, None, All, IfSome, length, take, drop}
use Rattle.scf_insn.specs.declared.answer.Answer.{Answer}
use Rattle.scf_insn.specs.declared.insn.Insn.{Insn}
use Rattle.scf_insn.specs.Kernel.{seccomp_ret_allow}
use Rattle.scf_machine.specs.Machine.{EndsAt}
use Rattle.scf_machine.specs.Precedence.{StackAnswers}
use Rattle.scf_compare.specs.declared.origin.Origin.{Origin}
use Rattle.scf_compare.specs.declared.origin.Origin.TheVariants.{Filter, Profile as OfReason}
use Rattle.scf_compare.specs.declared.side_tree.SideLeaf.{SideLeaf}
use Rattle.scf_compare.specs.declared.registers.KnownRegisters.{KnownRegisters}
use Rattle.scf_compare.specs.declared.stack.StackNode.{StackNode}
use Rattle.scf_compare.specs.declared.stack.StackNode.TheVariants.{Empty, At}
use Rattle.scf_compare.specs.Effort.{stack_paths}
use Rattle.scf_compare.specs.Masked.{IsMaskedProgram}
use Rattle.scf_compare.specs.Sides.{FilterGives, filter_at}
use Rattle.scf_compare.specs.Leaves.{KnowsAnswer, SideTells}
use Rattle.scf_compare.specs.internal.Filters.{IsFilterEnd, filter_is_node, filter_reaches, filter_size, filter_is_plain}
use Rattle.scf_compare.specs.internal.Trees.{Tree}

-- an end of one of the filters
abbrev pub IsEndAt : List (List Insn) → Origin → Option Answer → Type 0
IsEndAt filters (Filter filter index) answer = (filter < length filters)
    × IsFilterEnd (filter_at filters filter) (record { answer = answer; at = index })
IsEndAt filters (OfReason reason) answer = ⊥

-- An end of one of the filters, or of none, which allow.
abbrev pub IsStackLeaf : List (List Insn) → SideLeaf → Type 0
IsStackLeaf [] leaf = leaf ≡ record { answer = Some (record { 0 = seccomp_ret_allow }); origin = Filter 0 0 }
IsStackLeaf (oldest ∷ newer) leaf = IsEndAt (oldest ∷ newer) leaf.origin leaf.answer

-- the run of the filter at an index ends so, at the instruction of this origin
abbrev pub NextAnswers : List (List Insn) → ℕ → Origin → List ℕ → ℕ → Type 0
NextAnswers filters index (Filter filter at) words answer =
    (filter ≡ index) × EndsAt (filter_at filters index) words at answer
NextAnswers filters index (OfReason reason) words answer = ⊥

-- so many filters, the oldest first, answer so, by the instruction of this origin
abbrev pub FirstAnswer : List (List Insn) → ℕ → Origin → List ℕ → ℕ → Type 0
FirstAnswer filters count origin words answer =
    StackAnswers (take count filters) words answer × FilterGives (take count filters) origin words answer

-- what the filters before an index decide, from the second one on
abbrev pub IsOlder : List (List Insn) → ℕ → Option SideLeaf → Type 0
IsOlder filters index None = index ≡ 0
IsOlder filters index (Some leaf) = IsStackLeaf filters leaf

-- what is known of what they decide is so
abbrev pub OlderTells : List (List Insn) → ℕ → Option SideLeaf → List ℕ → Type 0
OlderTells filters index older words = IfSome older (λ leaf. SideTells (FirstAnswer filters index) leaf words)

abbrev pub stack_is_node : List (List Insn) → KnownRegisters → StackNode → Type 0
stack_is_node filters registers Empty = filters ≡ []
stack_is_node filters registers (At index older node) =
    (index < length filters) × filter_is_node (filter_at filters index) registers node × IsOlder filters index older

-- the older filters decide so, where that is known, and the words come to the node of the filter
abbrev pub stack_reaches : List (List Insn) → KnownRegisters → StackNode → List ℕ → Type 0
stack_reaches filters registers Empty words = Unit {0}
stack_reaches filters registers (At index older node) words =
    OlderTells filters index older words × filter_reaches (filter_at filters index) registers node words

-- the newer filters stand whole behind each end of a filter
abbrev pub stack_size : List (List Insn) → StackNode → ℕ
stack_size filters Empty = 1
stack_size filters (At index older node) =
    filter_size (filter_at filters index) node * stack_paths (drop (index + 1) filters)

abbrev pub stack_is_plain : List (List Insn) → KnownRegisters → ℕ → StackNode → Type 0
stack_is_plain filters registers masks Empty = Unit {0}
stack_is_plain filters registers masks (At index older node) =
    All (IsMaskedProgram masks) filters × IfSome older KnowsAnswer
    × filter_is_plain (filter_at filters index) registers masks node

-- the tree, for what is known of the registers at its nodes
abbrev pub stack_tree : List (List Insn) → KnownRegisters → Tree StackNode
stack_tree filters registers = record {
  is_node = stack_is_node filters registers;
  reaches = stack_reaches filters registers;
  size = stack_size filters;
  is_plain = stack_is_plain filters registers;
}
