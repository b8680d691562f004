use Rattle.scf_compare.proofs.Common.{◌<◌, arith, ap, length}
use Rattle.scf_compare.proofs.by_number.ByNumber.rule_at.Goals as goal

pub returns-clause-known : goal.returns-clause-known
returns-clause-known c =
    let rules = c.rules_at in
    let inside : c.args.at.rule < length rules.result.now = omega (arith, c.requires.rule, ap length rules.ensures.rules) in
    rw c.index-rules_at-at.is (rules.ensures.known c.args.at.rule c.index-rules_at-at.result inside)
