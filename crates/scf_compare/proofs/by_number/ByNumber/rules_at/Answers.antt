use Rattle.scf_compare.proofs.Common.{◌<◌, arith, ap, length, All, Contains, All-contains_itself, All-from_recursion, IsRule, NumberRules, Rule, own_all}
use Rattle.scf_compare.proofs.Rules.{read_at}
use Rattle.scf_compare.proofs.Numbered.{at_index}
use Rattle.scf_compare.proofs.by_number.ByNumber.rules_at.Goals as goal

-- what holds of each rule of the profile holds of those that are read
of_own : (P : Rule → Type 0) (c : goal.After-deref) → All P c.args.self.now.profile.rules → All P c.deref.result.now
of_own P c all =
    let s = c.args.self.now in
    let inside : c.args.number < length c.numbers.result.now =
    omega (arith, c.requires, ap length c.numbers.ensures.numbers) in
    let here = read_at _ s.numbers c.args.number _ c.numbers.ensures.numbers inside c.index-numbers-number.is in
    rw c.deref.ensures (at_index (λ (own : NumberRules). All P own.rules.items) s.numbers c.args.number _
    (own_all s.numbers s.profile.rules c.numbers.ensures.numbered.numbers P all) here)

pub returns-clause-known : goal.returns-clause-known
returns-clause-known c =
    let rules = c.args.self.now.profile.rules in of_own (Contains rules) c (All-contains_itself rules)

pub returns-clause-valid : goal.returns-clause-valid
returns-clause-valid c =
    let p = c.args.self.now.profile in
    of_own (IsRule p.architecture) c
    (All-from_recursion (IsRule p.architecture) p.rules c.numbers.ensures.numbered.valid.each)
