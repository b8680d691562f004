use Rattle.scf_profile.proofs.Common.{◌≡◌, All-push, AreRising, NumberRules, arith, common_steps, true}
use Rattle.scf_profile.proofs.number_rules.numbers_of_tree.Goals as goal

pub loop-number-preserved : goal.loop-number-preserved
loop-number-preserved c = record {
  entries = grind (arith, common_steps, c.loop-number.invariant.entries, c.in_ok-push.ensures.items);
  risen =
      rw c.in_ok-push.ensures.items (All-push (λ (group : NumberRules). group.is_rising ≡ true → AreRising group.rules.items)
      c.loop-number.numbers.items _ c.loop-number.invariant.risen
      (λ is. rw c.deref.ensures at (c.are_rising-is_rising.ensures is)));
}
