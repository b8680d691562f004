use Rattle.scf_profile.proofs.Common.{◌≡◌, ◌+◌, ◌++◌, map, filter_map, drop, Answer, Option, Some, None, option_map, profile_for, profiles_from, stated_profile, tables_of, get_or, X8664, TellsOneTooMany, AreStatedRules, All-push}
use Rattle.scf_profile.specs.declared.profile_text.StatedRules.{StatedRules}
use Rattle.scf_profile.proofs.Handed.{handed_fault}
use Rattle.scf_profile.proofs.Stated.{one_too_many, stated_more, with_found}
use Rattle.scf_profile.proofs.profile_text.stated_for.Goals as goal
use Rattle.scf_profile.proofs.profile_text.stated_for.Goals.{in-Some+in_ok-push, in_default}

pub returns-in_err-rules-clause-err : goal.returns-in_err-rules-clause-err
returns-in_err-rules-clause-err c =
    handed_fault (λ fault. (default : Answer) → TellsOneTooMany
    (profiles_from c.args.left_out (tables_of c.args.tables.now) default c.args.entries.now) fault) _ _
    c.from_residual.ensures.1
    (λ default. one_too_many c.args.left_out (tables_of c.args.tables.now) c.args.entries.now c.all-architectures.result
    c.loop-architecture.architecture-index (rw c.all-architectures.ensures c.loop-architecture-test.true) default
    c.loop-architecture.stated.items _ _
    (c.loop-architecture.invariant.rules default) (c.in_err-rules.ensures.err default))

pub loop-architecture-preserved : goal.loop-architecture-preserved
loop-architecture-preserved c =
    let tables = tables_of c.args.tables.now in
    let entries = c.args.entries.now in
    let all = c.all-architectures.result in
    let i = c.loop-architecture.architecture-index in
    let stated = c.loop-architecture.stated.items in
    let more : (rules : Option StatedRules) → ((default : Answer) → option_map (stated_profile default) rules
    ≡ profile_for c.args.left_out tables default entries (get_or all i X8664)) → (default : Answer)
    → map (stated_profile default) (with_found stated rules)
    ++ filter_map (profile_for c.args.left_out tables default entries) (drop (i + 1) all)
    ≡ profiles_from c.args.left_out tables default entries =
    λ rules is default. stated_more c.args.left_out tables entries all i
    (rw c.all-architectures.ensures c.loop-architecture-test.true) default stated rules _ (is default) (c.loop-architecture.invariant.rules default) in
    let rules_of = c.in_ok-rules.ensures in
    elim c.match-branch-2.branch [
      | in-Some+in_ok-push w ↦ rw (w.stated-is, w.in_ok-push.ensures.items) (record {
        rules = more (Some w.in-Some.rules) (rw w.in-Some.is at rules_of.rules);
        range = All-push (λ s. AreStatedRules s.architecture s.rules.items) stated w.in-Some.rules
            c.loop-architecture.invariant.range (rw w.in-Some.is at rules_of.range);
        names = λ was. rules_of.lacking (c.loop-architecture.invariant.names was);
      })
      | in_default w ↦ rw w.stated-is (record {
        rules = more None (rw w.in_default.is at rules_of.rules);
        range = c.loop-architecture.invariant.range;
        names = λ was. rules_of.lacking (c.loop-architecture.invariant.names was);
      })
    ]
