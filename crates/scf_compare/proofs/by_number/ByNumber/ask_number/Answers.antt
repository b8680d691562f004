use Rattle.scf_compare.proofs.Common.{◌≢◌, refl, arith, rules, take_all, call_of}
use Rattle.scf_compare.proofs.Bits.{below, word_is, word_isnt}
use Rattle.scf_compare.proofs.Rules.{all_more, read_at}
use Rattle.scf_compare.proofs.Numbered.{from_above, of_no_number, own_kept, sizes_from}
use Rattle.scf_compare.proofs.by_number.ByNumber.ask_number.Goals as goal

pub returns-then-from-numbers : goal.returns-then-from-numbers
returns-then-from-numbers g c = record {
  step = λ others. grind (arith, of_no_number, take_all, c.first_possible-from.ensures.possible);
  rules = grind arith;
}

pub returns-in-Never : goal.returns-in-Never
returns-in-Never g c =
    let s = c.args.self.now in
    let numbered = c.numbers-numbers.ensures.numbered in
    let from = c.first_possible-from.result in
    let own = c.index-numbers-from.result in
    let here = read_at _ s.numbers from own c.numbers-numbers.ensures.numbers c.if-from-numbers.false
    c.index-numbers-from.is in
    rw c.leaf_by-in-Never.ensures (record {
      rules = grind arith;
      step = λ others. record {
        proper = (refl, tt);
        leads = λ words given r. rw (c.default_answer-default_answer.ensures, c.profile.ensures)
            (of_no_number s (call_of words) numbered r.0
            (from_above s.numbers s.profile.rules numbered.numbers (call_of words) from own here
            (c.first_possible-from.ensures.possible words given.0 given.1 r.1)
            (below _ _ (rw c.number_from.ensures at (c.tell.ensures.law_never c.in-Never.is words given.1)))));
        costs = omega arith;
        plain = λ masks plain. refl;
      };
    })

pub returns-in-Always : goal.returns-in-Always
returns-in-Always g c =
    let s = c.args.self.now in
    let from = c.first_possible-from.result in
    let own = c.index-numbers-from.result in
    let here = read_at _ s.numbers from own c.numbers-numbers.ensures.numbers c.if-from-numbers.false
    c.index-numbers-from.is in
    record {
      rules = λ ends. ends;
      step = λ others. record {
        proper = search rules;
        leads = λ words given r. rw c.word_is.ensures (
          λ e. c.next_rule.ensures.reached words (record {
            by_rules = r.0;
            own = rw (word_is words 0 own.number given.0 e, own_kept s c.numbers-numbers.ensures.numbered from own here);
            unmet = λ k d lt. absurd (omega arith);
          }),
          λ e. (
            r.0,
            all_more (λ o. (call_of words).nr ≢ o.number) s.numbers from own here
                (c.first_possible-from.ensures.possible words given.0 given.1 r.1) (word_isnt words 0 own.number given.0 e),
          ),
        );
        costs =
            let size = sizes_from s.numbers c.args.index from own c.first_possible-from.ensures.later here in
            omega (arith, c.next_rule.ensures.size others, size);
        plain = search rules;
      };
    }
