use Rattle.scf_request.proofs.Common.{◌∙◌, found_of, rows_of, sym}
use Rattle.scf_request.specs.declared.request.Request.{Request}
use Rattle.scf_request.specs.Requests.{SpellRequest}
use Rattle.scf_request.proofs.request.request_named.Goals as goal

pub returns-then-not-have_record-clause-fault : goal.returns-then-not-have_record-clause-fault
returns-then-not-have_record-clause-fault c =
    let request : Request = record {
      reading = c.in-Some.reading;
      form = c.in-Some-form_of.form;
      command = c.in_ok-command.command;
    } in
    let spelled : SpellRequest c.args.name.now (rows_of (found_of c.args.options.now)) request = record {
      is_named = c.in_ok-command.ensures.command.is_named;
      numbers = c.in_ok-command.ensures.command.numbers;
      flags = c.in_ok-command.ensures.command.flags;
      form = sym c.form_of.ensures ∙ c.in-Some-form_of.is;
      reading = sym c.reading_in.ensures ∙ c.in-Some.is;
    } in
    (request, spelled, λ goes. let is = c.have_record.ensures.1 (rw c.scopes.ensures goes) in absurd (cc))
