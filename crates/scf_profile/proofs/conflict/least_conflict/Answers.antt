use Rattle.scf_profile.proofs.Common.{Any, subst, sym, take_all, All-more, All-same, NumberRules, EntriesConflict, arith, nat_tests, common_steps}
use Rattle.scf_profile.proofs.LeastClash.{AreBounded, all_bounded, all_found, least_found, one_more, still_bounded}
use Rattle.scf_profile.proofs.conflict.least_conflict.Goals as goal

pub least_among-least-requires : goal.least_among-least-requires
least_among-least-requires c = grind (arith, common_steps, nat_tests, c.deref.ensures, c.requires)

pub loop-group-preserved : goal.loop-group-preserved
loop-group-preserved c =
    let numbers = c.args.numbers.now in
    let i = c.loop-group.group-index in
    let group = c.group-item.result in
    let least = c.loop-group.least in
    let more = c.least_among-least.result in
    let keeps = c.least_among-least.ensures.keeps in
    let clash = rw c.deref.ensures at c.least_among-least.ensures.one in
    let bounds = rw c.deref.ensures at c.least_among-least.ensures.bounds in
    record {
      one =
          one_more (λ d. Any (λ (o : NumberRules). EntriesConflict c.args.architecture o.rules.items d.first d.second d.number) numbers)
          (λ d. EntriesConflict c.args.architecture group.rules.items d.first d.second d.number) least more
          (λ d h. (i, group, c.loop-group-test.true, sym c.group-item.is, h)) c.loop-group.invariant.one clash;
      bounds =
          All-more (λ (o : NumberRules). AreBounded c.args.architecture o.rules.items more) numbers i group c.loop-group-test.true
          (λ k d lt. still_bounded c.args.architecture least more keeps _ _ (c.loop-group.invariant.bounds k d lt))
          (subst (λ (o : NumberRules). AreBounded c.args.architecture o.rules.items more) c.group-item.is bounds);
    }

pub returns : goal.returns
returns c = λ rules are.
    let numbers = c.args.numbers.now in
    let least = c.loop-group.least in
    least_found c.args.architecture rules least
    (all_bounded c.args.architecture numbers rules are least
    (All-same (λ (group : NumberRules). AreBounded c.args.architecture group.rules.items least) numbers _
    (sym (take_all _ _ c.loop-group-test.false)) c.loop-group.invariant.bounds))
    (all_found c.args.architecture numbers rules are least c.loop-group.invariant.one)
