-- A filter as a tree of questions.
use Rattle.std.specs.Prelude.{◌≡◌, ◌<◌, ℕ, List, Option, None, Some, IfSome, IsSome, length, if◌then◌else◌}
use Rattle.scf_insn.specs.declared.answer.Answer.{Answer}
use Rattle.scf_insn.specs.declared.insn.Insn.{Insn}
use Rattle.scf_insn.specs.declared.operation.Operation.{Operation}
use Rattle.scf_machine.specs.Machine.{EndsAt, IsChain, State, start}
use Rattle.scf_machine.specs.Rules.{Stands}
use Rattle.scf_compare.specs.declared.filter.FilterLeaf.{FilterLeaf}
use Rattle.scf_compare.specs.declared.filter.FilterNode.{FilterNode}
use Rattle.scf_compare.specs.declared.filter.FilterNode.TheVariants.{At, Stopped}
use Rattle.scf_compare.specs.declared.control_flow.ControlFlow.{ControlFlow}
use Rattle.scf_compare.specs.declared.control_flow.ControlFlow.TheVariants.{DivideByIndex, ReturnConstant, ReturnAccumulator}
use Rattle.scf_compare.specs.declared.registers.KnownRegisters.{KnownRegisters}
use Rattle.scf_compare.specs.declared.step.Step.{Step}
use Rattle.scf_compare.specs.declared.step.Step.TheVariants.{Next, Branch}
use Rattle.scf_compare.specs.declared.value.Decision.{Decision}
use Rattle.scf_compare.specs.declared.value.Decision.TheVariants.{Known as Decided, Asks, Open}
use Rattle.scf_compare.specs.Masked.{IsMaskedProgram}
use Rattle.scf_compare.specs.Paths.{tree_size}
use Rattle.scf_compare.specs.internal.ControlFlow.{control_flow_at}
use Rattle.scf_compare.specs.internal.Trees.{Leaves, Tree}
use Rattle.scf_compare.specs.internal.Values.{AreValues, IsMaskedValue, Describes}

-- The run over the words comes to an index with registers that the values abstract.
pub record ComesTo (insns : List Insn) (index : ℕ) (registers : KnownRegisters) (words : List ℕ) : Type 0 where
  pub state : State
  pub earlier : List State
  pub chain : IsChain insns words start state earlier
  pub there : state.pc ≡ index
  pub describes : Describes registers words state

-- What is known of the answer where a run ends by how its instruction goes on: the constant of a return; 0 of a
-- division by 0; and whatever is known of the accumulator.
abbrev pub EndsWith : ControlFlow → Insn → Option Answer → Type 0
EndsWith ReturnConstant i answer = answer ≡ Some (record { 0 = i.k })
EndsWith ReturnAccumulator i answer = Unit {0}
EndsWith (DivideByIndex next) i answer = answer ≡ Some (record { 0 = 0 })
EndsWith _ i answer = ⊥

-- A leaf of a filter, at the index where a run of it ends: only what is in the accumulator isn't known there.
pub record IsFilterEnd (insns : List Insn) (leaf : FilterLeaf) : Type 0 where
  pub insn : Insn
  pub operation : Operation
  pub stands : Stands insns leaf.at insn operation
  pub ends : EndsWith (control_flow_at operation insn leaf.at) insn leaf.answer

abbrev pub filter_is_node : List Insn → KnownRegisters → FilterNode → Type 0
filter_is_node insns registers (At index) = (index < length insns) × AreValues registers
filter_is_node insns registers (Stopped answer at) = IsFilterEnd insns (record { answer = Some answer; at = at })

abbrev pub filter_reaches : List Insn → KnownRegisters → FilterNode → List ℕ → Type 0
filter_reaches insns registers (At index) words = ComesTo insns index registers words
filter_reaches insns registers (Stopped answer at) words = EndsAt insns words at answer.0

abbrev pub filter_size : List Insn → FilterNode → ℕ
filter_size insns (At index) = tree_size insns index
filter_size insns (Stopped answer at) = 1

-- a masked program has a word or constant in its accumulator, or a word under a mask where it may be under one, and
-- divides nothing
abbrev pub filter_is_plain : List Insn → KnownRegisters → ℕ → FilterNode → Type 0
filter_is_plain insns registers masks (At index) =
    (program : IsMaskedProgram masks insns) × IsMaskedValue masks (program.under index) registers.a
filter_is_plain insns registers masks (Stopped answer at) = ⊥

-- the tree, for what is known of the registers at its nodes
abbrev pub filter_tree : List Insn → KnownRegisters → Tree FilterNode
filter_tree insns registers = record {
  is_node = filter_is_node insns registers;
  reaches = filter_reaches insns registers;
  size = filter_size insns;
  is_plain = filter_is_plain insns registers;
}

abbrev pub leaves_of_filter : List Insn → Leaves FilterLeaf
leaves_of_filter insns = record {
  is_leaf = IsFilterEnd insns;
  tells = λ leaf words. IfSome leaf.answer (λ answer. EndsAt insns words leaf.at answer.0);
  tells_all = λ leaf. IsSome leaf.answer;
}

-- the successors of a test
abbrev pub IsStepOf : Decision → FilterNode → FilterNode → Step FilterNode FilterLeaf → Type 0
IsStepOf (Decided outcome) if_true if_false step = step ≡ Next (if outcome then if_true else if_false)
IsStepOf (Asks atom holds) if_true if_false step =
    step ≡ (if holds then Branch (Some atom) if_true if_false else Branch (Some atom) if_false if_true)
IsStepOf (Open open_test) if_true if_false step = step ≡ Branch None if_true if_false
