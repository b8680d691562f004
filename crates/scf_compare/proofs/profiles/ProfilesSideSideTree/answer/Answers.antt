use Rattle.scf_compare.proofs.Common.{None, Some, call_of-words_of, one_answer, refl}
use Rattle.scf_profile.proofs.Answering.{by_found, of_found}
use Rattle.scf_compare.proofs.profiles.ProfilesSideSideTree.answer.Goals as goal

pub returns-in-Some-clause-of_words : goal.returns-in-Some-clause-of_words
returns-in-Some-clause-of_words c =
    let same = call_of-words_of c.args.call.now c.within_widths.ensures in
    rw same (by_found _ _ _ _ (Some c.in-Some.profile.now) c.in-Some.ensures c.answer.ensures)

pub returns-in-Some-clause-only : goal.returns-in-Some-clause-only
returns-in-Some-clause-only c = λ other answers.
    let same = call_of-words_of c.args.call.now c.within_widths.ensures in
    one_answer c.in-Some.profile.now c.args.call.now c.rules-rules.ensures.profile.no_conflict c.within_widths.ensures
    (of_found _ _ _ _ (Some c.in-Some.profile.now) c.in-Some.ensures (rw same at answers)) c.answer.ensures

pub returns-in-None-clause-of_words : goal.returns-in-None-clause-of_words
returns-in-None-clause-of_words c =
    let same = call_of-words_of c.args.call.now c.within_widths.ensures in
    rw same (by_found _ _ _ _ None c.in-None.ensures refl)

pub returns-in-None-clause-only : goal.returns-in-None-clause-only
returns-in-None-clause-only c = λ other answers.
    let same = call_of-words_of c.args.call.now c.within_widths.ensures in
    of_found _ _ _ _ None c.in-None.ensures (rw same at answers)
