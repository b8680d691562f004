-- What follows from one relation for another.
use Rattle.scf_profile.proofs.Answering.{one_answer_among}
use Rattle.scf_compare.specs.SideLaws.{IsSide}
use Rattle.scf_compare.specs.declared.side.Side.TheVariants.{Stack, Profiles}
use Rattle.scf_compare.proofs.Common.{Side, behavior_of, call_of-words_of, ◌≡◌, ℕ, List, Insn, CallRecord, IsRecord, words_of, StackAnswers, stack_answer_once, Profile, HaveNoConflict, ProfileAnswers, AnswersRelated, one_answer, Relation, IsRelated}

-- the relation holds of the two answers to a call, of which there are no others
pub related_here : (relation : Relation) (filters : List (List Insn)) (p : Profile) (call : CallRecord)
    (filter profile : ℕ)
    → HaveNoConflict p.architecture p.rules → IsRecord call
    → AnswersRelated (IsRelated relation) (StackAnswers filters) p call
    → StackAnswers filters (words_of call) filter → ProfileAnswers p call profile → IsRelated relation filter profile
related_here relation filters p call filter profile none is_record both of_words of_profile =
    let one = stack_answer_once filters (words_of call) both.filter filter both.of_words of_words in
    let other = one_answer p call none is_record both.of_profile of_profile in
    rw (one, other) at both.are_related

-- a side has one answer to a call
pub side_answers_once : (side : Side) (call : CallRecord) (first second : ℕ) → IsSide side → IsRecord call
    → (behavior_of side).answers (words_of call) first → (behavior_of side).answers (words_of call) second
    → first ≡ second
side_answers_once (Stack filters) call first second is is_record a b =
    stack_answer_once filters.now (words_of call) first second a b
side_answers_once (Profiles profiles) call first second is is_record a b =
    let same = call_of-words_of call is_record in
    one_answer_among profiles.now call is is_record (rw same at a) (rw same at b)
