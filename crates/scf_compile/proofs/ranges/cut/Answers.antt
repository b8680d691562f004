use Rattle.scf_compile.proofs.Common.{rules, tests, filter_same, ltb, NrRange}
use Rattle.scf_compile.proofs.ranges.cut.Goals as goal

pub returns : goal.returns
returns c =
    filter_same _ (λ (s : NrRange). ltb s.first c.args.start) _ (λ x b g told. (search (rules, tests), search (rules, tests))) _ _
    c.retain.ensures.filtered
