-- Where the successors of a condition lead.
use Rattle.scf_compare.proofs.Common.{arith, ◌≡◌, Bool, true, ℕ, List, sym, ◌∙◌, get_or, false, slice_get-get_or, IsWords, Architecture, Condition, argument_in, row_of, call_of, meets, own_conditions, own_rules}
use Rattle.scf_profile.proofs.NumberTests.{decides}
use Rattle.scf_profile.specs.Condition.{condition_holds}
use Rattle.scf_profile.specs.NumberTests.{comes_to, test_of}
use Rattle.scf_compare.proofs.Halves.{argument_fits}
use Rattle.scf_compare.proofs.Rules.{all_more, fails_by, held_more}
use Rattle.scf_compare.proofs.Numbered.{conditions_read, no_rule}
use Rattle.scf_compare.proofs.by_number.ByNumber.follow.Goals as goal

-- a condition holds where its test comes to what is expected
holds_by : (architecture : Architecture) (words : List ℕ) (condition : Condition) (holds : Bool) → IsWords words
    → comes_to (test_of condition) (argument_in architecture (call_of words) condition.index) ≡ holds
    → condition_holds condition (argument_in architecture (call_of words) condition.index) ≡ holds
holds_by architecture words condition holds w is =
    sym (decides condition _ (argument_fits (row_of architecture).bits words condition.index w)) ∙ is

pub returns-in-Decided-true-clause-reached : goal.returns-in-Decided-true-clause-reached
returns-in-Decided-true-clause-reached c = λ words condition w here at. rw c.in-Decided-true.is (λ successor.
    let architecture = c.args.self.now.profile.architecture in
    let conditions = own_conditions c.args.self.now.numbers c.args.at in
    c.next_condition.ensures.reached words (record {
      at_rule = at.at_rule;
      held = held_more architecture (call_of words) conditions c.args.at.condition condition here at.held
          (holds_by architecture words condition true w (successor ∙ c.in-Decided-true.field-0-test));
    }))

pub returns-in-Decided-false-clause-reached : goal.returns-in-Decided-false-clause-reached
returns-in-Decided-false-clause-reached c = λ words condition w here at. rw c.in-Decided-false.is (λ successor.
    let architecture = c.args.self.now.profile.architecture in
    let call = call_of words in
    let numbers = c.args.self.now.numbers in
    let rules = own_rules numbers c.args.at.number in
    let rule = get_or rules c.args.at.rule no_rule in
    let stands = slice_get-get_or rules c.args.at.rule no_rule c.requires.stands.rule in
    let fails =
    rw (conditions_read numbers c.args.at rule stands)
    at (fails_by architecture call (own_conditions numbers c.args.at) c.args.at.condition condition here
    (holds_by architecture words condition false w (successor ∙ c.in-Decided-false.field-0-test))) in
    c.next_rule.ensures.reached words (record {
      by_rules = at.at_rule.by_rules;
      own = at.at_rule.own;
      unmet =
          all_more (λ earlier. meets architecture earlier call ≡ false) rules c.args.at.rule rule stands at.at_rule.unmet
          (grind arith);
    }))
