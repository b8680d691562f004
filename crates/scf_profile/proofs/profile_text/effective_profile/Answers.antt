use Rattle.scf_profile.proofs.Common.{IsRule}
use Rattle.scf_profile.proofs.NumberLists.{own_all}
use Rattle.scf_profile.proofs.StatedRules.{effective_stated, have_no_conflict, profile_of_rules}
use Rattle.scf_profile.proofs.profile_text.effective_profile.Goals as goal

pub least_conflict-requires : goal.least_conflict-requires
least_conflict-requires c =
    let stated = effective_stated c.args.reading _ c.args.stated.rules.items c.requires.rules in
    rw c.deref-2.ensures.value
    (own_all _ _ c.in_ok-numbers.ensures (IsRule c.args.stated.architecture)
    (rw (c.deref.ensures.value, c.in_ok-rules.ensures) stated.each))

pub new-requires-clause-profile : goal.new-requires-clause-profile
new-requires-clause-profile c =
    let stated = effective_stated c.args.reading _ c.args.stated.rules.items c.requires.rules in
    let numbers = rw (c.deref.ensures.value, c.in_ok-rules.ensures) at c.in_ok-numbers.ensures in
    rw c.in_ok-rules.ensures
    (profile_of_rules c.args.stated.architecture c.args.default_answer _ c.requires.default_answer stated
    (c.in-None.ensures _ (rw c.deref-2.ensures.value numbers)))

pub returns-in-None-clause-no_conflict : goal.returns-in-None-clause-no_conflict
returns-in-None-clause-no_conflict c =
    let stated = effective_stated c.args.reading _ c.args.stated.rules.items c.requires.rules in
    let numbers = rw (c.deref.ensures.value, c.in_ok-rules.ensures) at c.in_ok-numbers.ensures in
    rw (c.new.ensures, c.in_ok-rules.ensures)
    (have_no_conflict c.args.stated.architecture _ stated (c.in-None.ensures _ (rw c.deref-2.ensures.value numbers)))
