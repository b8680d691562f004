-- When a filter, or whatever answers the words of a call, answers as a profile does.
use Rattle.std.specs.Prelude.{◌≡◌, ℕ, List}
use Rattle.scf_insn.specs.declared.record.CallRecord.{CallRecord}
use Rattle.scf_insn.specs.Words.{IsRecord, words_of}
use Rattle.scf_profile.specs.Profile.{Profile}
use Rattle.scf_profile.specs.ProfileAnswers.{ProfileAnswers, ProfilesAnswer}

-- answers of the filter and of the profile to the call, of which a relation holds
pub record AnswersRelated (related : ℕ → ℕ → Type 0) (answers : List ℕ → ℕ → Type 0) (p : Profile)
    (call : CallRecord) : Type 0 where
  pub filter : ℕ
  pub profile : ℕ
  pub of_words : answers (words_of call) filter
  pub of_profile : ProfileAnswers p call profile
  pub are_related : related filter profile

-- two answers are the same, in all 32 bits
abbrev pub AreSame : ℕ → ℕ → Type 0
AreSame filter profile = filter ≡ profile

-- Every call record is answered alike. `answers words answer` says that the words of a call are answered so; where it
-- gives one answer at most, and the profile has no conflict, the two answers to a record are equal.
abbrev pub SameAnswers : (List ℕ → ℕ → Type 0) → Profile → Type 0
SameAnswers answers p = (call : CallRecord) → IsRecord call → AnswersRelated AreSame answers p call

-- every call record is answered as several profiles answer it
abbrev pub SameAnswersAsEach : (List ℕ → ℕ → Type 0) → List Profile → Type 0
SameAnswersAsEach answers profiles =
    (call : CallRecord) → IsRecord call
    → (answer : ℕ) × answers (words_of call) answer × ProfilesAnswer profiles call answer
