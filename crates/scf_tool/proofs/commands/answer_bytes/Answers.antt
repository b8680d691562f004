use Rattle.scf_tool.proofs.WholeInput.{on_bundle}
use Rattle.scf_tool.proofs.commands.answer_bytes.Goals as goal

pub returns-in_default : goal.returns-in_default
returns-in_default c = on_bundle c.args.request.now.reading c.args.request.now.form c.args.request.now.command
    c.args.bytes.now c.answer_bundle.result c.in_default.not-Assemble c.answer_bundle.ensures
