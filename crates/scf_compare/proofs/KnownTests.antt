-- Tests of a number that the store knows.
use Rattle.scf_compare.proofs.Common.{◌≡◌, ℕ, Bool, Constant, ConditionalJump, Insn, IsValidList, KnownRegisters, List, Operation, RunsSafely, Stands, arith, control_flow_at, false, filter_tree, holds, if◌then◌else◌, true}
use Rattle.scf_compare.proofs.ControlFlows.{inside_at, masked_at, size_by_flow}
use Rattle.scf_compare.proofs.MaskedSides.{carried}
use Rattle.scf_compare.proofs.Successors.{leads}
use Rattle.scf_insn.specs.declared.operation.Test.{Test}
use Rattle.scf_compare.specs.declared.filter.FilterNode.TheVariants.{At}
use Rattle.scf_compare.specs.declared.step.Step.TheVariants.{Next}
use Rattle.scf_compare.specs.internal.Filters.{leaves_of_filter}
use Rattle.scf_compare.specs.internal.Trees.{IsStep}
use Rattle.scf_compare.specs.internal.Values.{Abstracts, AreValues}

-- a test of a known accumulator against a constant leads to one of its successors
pub known_test : {insns : List Insn} {given : List ℕ → Type 0} {registers : KnownRegisters} {index : ℕ} {i : Insn}
    {operation : Operation} {test : Test} {number if_true if_false : ℕ}
    → IsValidList insns → ((words : List ℕ) → RunsSafely insns words) → Stands insns index i operation
    → control_flow_at operation i index ≡ ConditionalJump test Constant if_true if_false → AreValues registers
    → ((words : List ℕ) (x : ℕ) → given words → Abstracts registers.a words x → x ≡ number)
    → (outcome : Bool) → holds test number i.k ≡ outcome
    → IsStep (leaves_of_filter insns) given (filter_tree insns registers) (At index) (filter_tree insns registers)
    (Next (At (if outcome then if_true else if_false)))
known_test {insns = insns} {index = index} {i = i} {operation = operation} valid safe stands flow values is true met =
    let size = rw flow at (size_by_flow insns index i operation stands) in
    record {
      proper = ((rw flow at (inside_at insns index i operation valid stands)).1, values);
      leads = λ words w r.
          let number = is words r.state.a w r.describes.a in
          (leads stands r (safe words) _ flow).0 (rw number met);
      costs = omega (arith, size);
      plain = λ masks plain.
          let goes = rw flow at (masked_at masks plain.0 stands) in (plain.0, carried masks _ _ _ goes.2 plain.1);
    }
known_test {insns = insns} {index = index} {i = i} {operation = operation} valid safe stands flow values is false isnt =
    let size = rw flow at (size_by_flow insns index i operation stands) in
    record {
      proper = ((rw flow at (inside_at insns index i operation valid stands)).3, values);
      leads = λ words w r.
          let number = is words r.state.a w r.describes.a in
          (leads stands r (safe words) _ flow).1 (rw number isnt);
      costs = omega (arith, size);
      plain = λ masks plain.
          let goes = rw flow at (masked_at masks plain.0 stands) in (plain.0, carried masks _ _ _ goes.3 plain.1);
    }
