use Rattle.scf_compile.proofs.Common.{◌≤◌, each_number, row_of, arith, nat_tests, common_steps}
use Rattle.scf_compile.proofs.Sizes.{rules_valid}
use Rattle.scf_compile.proofs.compiler.own_ranges.Goals as goal

pub ranges_of-requires-clause-first : goal.ranges_of-requires-clause-first
ranges_of-requires-clause-first c =
    rw c.architecture-architecture.ensures
    (each_number _ _ c.numbers.ensures.numbers (λ nr. (row_of c.args.profile.now.architecture).first ≤ nr)
    (λ k d lt. (rules_valid _ c.numbers.ensures.profile k d lt).first))

pub ranges_of-requires-clause-last : goal.ranges_of-requires-clause-last
ranges_of-requires-clause-last c =
    rw c.architecture-architecture.ensures
    (each_number _ _ c.numbers.ensures.numbers (λ nr. nr ≤ (row_of c.args.profile.now.architecture).last)
    (λ k d lt. (rules_valid _ c.numbers.ensures.profile k d lt).last))

pub returns-clause-ranges : goal.returns-clause-ranges
returns-clause-ranges c =
    let architecture = c.architecture-architecture.ensures in
    let end = rw architecture at c.last.ensures in
    let laid = rw (architecture, c.default_answer-default.ensures) at
    (c.in_ok-ranges.ensures c.args.profile.now.rules c.numbers.ensures.numbers) in
    record {
      start = c.stub_start-start.result;
      is_start = c.stub_start-start.ensures;
      whole = c.in_ok-ranges.ranges.items;
      laid = laid;
      some = λ lt. rw c.cut.ensures at c.in_ok-fill.ensures.some (omega arith);
      none = λ past. rw c.cut.ensures at c.in_ok-fill.ensures.none (omega arith);
    }
