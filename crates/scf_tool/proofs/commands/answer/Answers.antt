use Rattle.scf_tool.proofs.Common.{Err, Ok, ReadsUnder, err_from_is_err_and, max_input_len}
use Rattle.scf_tool.proofs.WholeInput.{left_by, left_whole, not_read, takes_whole, true_of_input}
use Rattle.scf_tool.specs.declared.fault.Fault.TheVariants as faults
use Rattle.scf_tool.specs.internal.Bytes.{TakesWhole}
use Rattle.scf_tool.proofs.commands.answer.Goals as goal

pub returns-in_err-bytes-in_default-clause-answer : goal.returns-in_err-bytes-in_default-clause-answer
returns-in_err-bytes-in_default-clause-answer g c =
    let p = err_from_is_err_and c.from_residual.result c.from_residual.ensures.1 in
    let whole : TakesWhole c.args.request.now.command =
    takes_whole c.args.request.now.command c.in_default.not-Check c.in_default.not-List c.in_default.not-Run in
    rw (p.1, p.2) (not_read c.args.request.now.reading c.args.request.now.form c.args.request.now.command
    (g.R.Source.remaining c.args.input.now) c.in_err-bytes-in_default.field-0.0 whole
    c.in_err-bytes-in_default.ensures.fault)

pub returns-in_err-bytes-in_default-clause-input : goal.returns-in_err-bytes-in_default-clause-input
returns-in_err-bytes-in_default-clause-input g c =
    let p = err_from_is_err_and c.from_residual.result c.from_residual.ensures.1 in
    let whole : TakesWhole c.args.request.now.command =
    takes_whole c.args.request.now.command c.in_default.not-Check c.in_default.not-List c.in_default.not-Run in
    rw (p.1, p.2) (left_by g.R.Source.remaining g.R.Source.failures c.args.input.now _ c.args.request.now.command
    (Err (faults.Input c.in_err-bytes-in_default.field-0.0)) whole c.in_err-bytes-in_default.ensures.failed)

pub returns-in_ok-bytes-in_default-clause-answer : goal.returns-in_ok-bytes-in_default-clause-answer
returns-in_ok-bytes-in_default-clause-answer g c =
    let whole : TakesWhole c.args.request.now.command =
    takes_whole c.args.request.now.command c.in_default.not-Check c.in_default.not-List c.in_default.not-Run in
    let read : ReadsUnder max_input_len (g.R.Source.remaining c.args.input.now) (Ok c.deref.result.now) =
    rw c.deref.ensures.value c.in_ok-bytes-in_default.ensures.read in
    true_of_input c.args.request.now.reading c.args.request.now.form c.args.request.now.command c.deref.result.now
    c.answer_bytes.result (g.R.Source.remaining c.args.input.now) whole read c.answer_bytes.ensures

pub returns-in_ok-bytes-in_default-clause-input : goal.returns-in_ok-bytes-in_default-clause-input
returns-in_ok-bytes-in_default-clause-input g c =
    let whole : TakesWhole c.args.request.now.command =
    takes_whole c.args.request.now.command c.in_default.not-Check c.in_default.not-List c.in_default.not-Run in
    left_by g.R.Source.remaining g.R.Source.failures c.args.input.now _ c.args.request.now.command
    c.answer_bytes.result whole (left_whole g.R.Source.remaining g.R.Source.failures c.args.input.now _
    c.args.request.now.reading c.args.request.now.form c.args.request.now.command c.deref.result.now
    c.answer_bytes.result c.answer_bytes.ensures c.in_ok-bytes-in_default.ensures.ended)
