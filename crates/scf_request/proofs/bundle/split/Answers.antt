use Rattle.scf_request.proofs.Common.{◌≡◌, List, Part, SpellsParts, split_kinds}
use Rattle.std.proofs.lemmas.Result.{IfOk-weaker}
use Rattle.scf_request.proofs.BundleLemmas.{one_spelling, split_kinds_told_apart}
use Rattle.scf_request.proofs.bundle.split.Goals as goal

pub returns-clause-only : goal.returns-clause-only
returns-clause-only c =
    let bytes = c.args.bytes.now in
    IfOk-weaker c.split_by.result (λ parts. SpellsParts split_kinds 0 bytes parts.items)
    (λ parts. (others : List Part) → SpellsParts split_kinds 0 bytes others → others ≡ parts.items)
    (λ parts spelled others spelling.
    one_spelling split_kinds split_kinds_told_apart 0 bytes others parts.items spelling spelled)
    c.split_by.ensures.parts
