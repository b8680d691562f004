-- The tests that are passed lead to where the runs that come to them go on.
use Rattle.scf_insn.proofs.Codes.{asks_for}
use Rattle.scf_insn.specs.declared.operation.Operation.TheVariants.{JumpIf}
use Rattle.scf_insn.specs.declared.operation.Test.TheVariants.{Equal}
use Rattle.scf_compare.proofs.Common.{◌≡◌, ◌+◌, Constant, Insn, Stands, arith, false, get_or, holds, if◌then◌else◌, refl, slice_get-get_or, true}
use Rattle.scf_compare.proofs.KnownTests.{known_test}
use Rattle.scf_compare.proofs.Steps.{passed_on}
use Rattle.scf_compare.proofs.filter.pass_equalities.Goals as goal
use Rattle.scf_compare.proofs.filter.pass_equalities.Goals.{then-insn-number, else-insn-number}

abbrev no_insn : Insn
no_insn = record { code = 0; jt = 0; jf = 0; k = 0 }

pub loop-steps-preserved : goal.loop-steps-preserved
loop-steps-preserved g c =
    let so_far = c.loop-steps.invariant in
    let insns = c.args.program.now in
    let index = c.loop-steps.index in
    let same = c.insns-insns.ensures.same in
    let insn = get_or insns index no_insn in
    let code : insn.code ≡ 21 = grind (arith, rw same at c.if-insn-ne-EQUALS_CONSTANT.false) in
    let stands : Stands insns index insn (JumpIf Equal Constant) = record {
      here = slice_get-get_or insns index no_insn so_far.later.node.0;
      known = rw code (asks_for (JumpIf Equal Constant));
    } in
    let equal = holds Equal c.args.number insn.k in
    let to : index + (1 + c.from.result) ≡ (if equal then index + 1 + insn.jt else index + 1 + insn.jf) =
    elim c.if-insn-number.branch [
      | then-insn-number w ↦
          let is : equal ≡ true = grind (arith, rw same at w.if-insn-number.true) in
          rw is (omega (arith, rw same at w.offset-is, c.from.ensures))
      | else-insn-number w ↦
          let isnt : equal ≡ false = grind (arith, rw same at w.if-insn-number.false) in
          rw isnt (omega (arith, rw same at w.offset-is, c.from.ensures))
    ] in
    let step = known_test c.insns-insns.ensures.valid c.insns-insns.ensures.safe stands refl so_far.later.node.1
    (λ words x w. c.requires.number words x w.0 w.1) equal refl in
    rw to (record {
      later = passed_on _ _ _ _ _ _ _ _ so_far.later step;
      size = omega (arith, so_far.size, step.costs);
      most = omega (arith, c.loop-steps-test.true);
    })
