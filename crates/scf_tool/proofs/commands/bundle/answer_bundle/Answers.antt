use Rattle.scf_tool.proofs.Common.{err_from_is_err_and, inl, inr, refl}
use Rattle.scf_tool.specs.internal.Sides.{inputs_of}
use Rattle.scf_tool.proofs.commands.bundle.answer_bundle.Goals as goal

pub returns-in_err-inputs : goal.returns-in_err-inputs
returns-in_err-inputs c =
    let p = err_from_is_err_and c.from_residual.result c.from_residual.ensures.1 in
    rw (p.1, p.2) (inl (c.in_err-inputs.field-0.0, refl, rw c.shape_of-shape.ensures at c.in_err-inputs.ensures.fault))

pub returns-in_err-sides : goal.returns-in_err-sides
returns-in_err-sides c =
    let p = err_from_is_err_and c.from_residual-in_err-sides.result c.from_residual-in_err-sides.ensures.1 in
    let opened = rw c.shape_of-shape.ensures at c.in_ok-inputs.ensures.inputs in
    rw (p.1, p.2) (inr (
      opened.0,
      opened.1,
      inputs_of c.in_ok-inputs.inputs,
      opened.2,
      inl (c.in_err-sides.field-0.0, refl, rw c.shape_of-shape.ensures at c.in_err-sides.ensures.refused),
    ))

pub returns : goal.returns
returns c =
    let opened = rw c.shape_of-shape.ensures at c.in_ok-inputs.ensures.inputs in
    inr (
      opened.0,
      opened.1,
      inputs_of c.in_ok-inputs.inputs,
      opened.2,
      inr (
        rw c.shape_of-shape.ensures at c.in_ok-sides.ensures.over,
        c.in_ok-sides.sides,
        c.in_ok-sides.ensures.read,
        c.reply_to.ensures,
      ),
    )
