use Rattle.scf_request.proofs.Common.{◌∙◌, and_parts, IfOk-weaker}
use Rattle.scf_request.proofs.command_line.parse.Goals as goal

pub returns-clause-matches : goal.returns-clause-matches
returns-clause-matches g c =
    let reads = c.in_ok-program_for.ensures in
    IfOk-weaker c.try_get_matches_from.result _ _
    (λ m has. (has (and_parts _ _ reads.is_free).0).1 ∙ reads.asked) c.try_get_matches_from.ensures.matches
