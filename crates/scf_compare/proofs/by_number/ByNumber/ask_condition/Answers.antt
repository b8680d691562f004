use Rattle.scf_compare.proofs.Common.{◌≡◌, ◌<◌, ◌∙◌, ℕ, Bool, true, false, List, Some, get_or, sym, ap, arith, rules, length, slice_get, slice_get-get_or, All, All-contains, IsWords, Condition, ArgumentBits, argument, row_of, taken_of, call_of, own_conditions}
use Rattle.scf_profile.specs.NumberTests.{test_of}
use Rattle.scf_compare.proofs.Halves.{answer_there, argument_fits, half_is_zero}
use Rattle.scf_compare.proofs.Numbered.{at_index, no_condition}
use Rattle.scf_compare.specs.Masked.{IsMaskedCondition, IsMaskedRule}
use Rattle.scf_compare.specs.internal.Conditions.{Splits, asks_of_zero}
use Rattle.scf_compare.specs.internal.Profiles.{KnowsPart}
use Rattle.scf_compare.proofs.by_number.ByNumber.ask_condition.Goals as goal
use Rattle.scf_compare.proofs.by_number.ByNumber.ask_condition.Goals.{After-asks_of_zero}

-- what both steps share
module _ (c : After-asks_of_zero) where
  abbrev condition : Condition
  condition = get_or c.as_slice-conditions.result.now c.args.at.condition no_condition

  abbrev bits : ArgumentBits
  bits = (row_of c.args.self.now.profile.architecture).bits

  -- the argument of a call, as the profile's architecture takes it
  abbrev taken : List ℕ → ℕ
  taken words = taken_of bits (argument (call_of words) condition.index)

  read : c.as_slice-conditions.result.now ≡ own_conditions c.args.self.now.numbers c.args.at
  read = c.as_slice-conditions.ensures ∙ c.rule_at.ensures.conditions

  inside : c.args.at.condition < length c.as_slice-conditions.result.now
  inside = omega (arith, c.requires.condition, ap length read)

  here : slice_get (own_conditions c.args.self.now.numbers c.args.at) c.args.at.condition ≡ Some condition
  here = rw (← read) (slice_get-get_or c.as_slice-conditions.result.now c.args.at.condition no_condition inside)

  ways : (words : List ℕ) → IsWords words → KnowsPart c.args.self.now c.args.at c.args.part (call_of words)
      → Splits (test_of condition) c.args.part c.question_of-question.result (taken words)
  ways words w r =
      let one : r.condition ≡ condition = cc (r.here, here) in
      c.question_of-question.ensures.splits (taken words) (argument_fits bits words condition.index w) (rw one at r.known)

  masked_condition : (masks : ℕ) → All (IsMaskedRule masks) c.args.self.now.profile.rules
      → IsMaskedCondition masks condition
  masked_condition masks all =
      let rule = All-contains (IsMaskedRule masks) c.args.self.now.profile.rules _ all c.rule_at.ensures.known in
      at_index (IsMaskedCondition masks) _ c.args.at.condition condition rule.conditions
      (rw (← c.rule_at.ensures.conditions) at here)

  asked : (answer : Bool) → c.asks_of_zero.result ≡ answer
      → asks_of_zero bits c.args.part ≡ answer
  asked answer is =
      rw (c.argument_bits-bits.ensures, c.architecture.ensures, c.profile.ensures) at (sym c.asks_of_zero.ensures ∙ is)

pub returns-then-asks_of_zero : goal.returns-then-asks_of_zero
returns-then-asks_of_zero c =
    let shared = (goal.at.returns-then-asks_of_zero c).After-asks_of_zero in
    record {
      rules = λ ends. ends;
      step = λ others. record {
        proper = c.follow.ensures.node;
        leads = λ words w r.
            let zero =
            half_is_zero (bits shared) c.args.part (argument (call_of words) (condition shared).index)
            (asked shared true c.if-asks_of_zero.true) in
            let ways = rw zero at (ways shared words w r) in
            c.follow.ensures.reached words (condition shared) w (here shared) r.at_condition (grind (arith, ways));
        costs = grind (arith, c.question_of-question.ensures.costs, c.follow.ensures.size others);
        plain = λ masks plain. plain;
      };
    }

pub returns-else-asks_of_zero : goal.returns-else-asks_of_zero
returns-else-asks_of_zero c =
    let shared = (goal.at.returns-else-asks_of_zero c).After-asks_of_zero in
    let question = c.question_of-question in
    let if_true = c.follow-else-asks_of_zero.ensures in
    let if_false = c.follow-else-asks_of_zero-2.ensures in
    record {
      rules = λ ends. ends;
      step = λ others. record {
        proper = search rules;
        leads = λ words w r.
            let there =
            answer_there (bits shared) c.args.part question.result.atom words (condition shared).index w
            (asked shared false c.if-asks_of_zero.false) question.ensures.word in
            let ways = ways shared words w r in (
              λ e. if_true.reached words (condition shared) w (here shared) r.at_condition (ways.0 (sym there ∙ e)),
              λ e. if_false.reached words (condition shared) w (here shared) r.at_condition (ways.1 (sym there ∙ e)),
            );
        costs = omega (arith, question.ensures.costs, if_true.size others, if_false.size others);
        plain = λ masks plain. (question.ensures.keeps masks (masked_condition shared masks plain), plain, plain);
      };
    }
