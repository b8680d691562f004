-- Which answer of a stack decides (seccomp(2)).
use Rattle.std.specs.Prelude.{◌≡◌, ℕ, ◌<◌, ◌≤ℤ◌, ◌<ℤ◌, int_lt, if◌then◌else◌, List, [], ◌∷◌, Option, Some, None, slice_get, reverse}
use Rattle.std.specs.List.{AllZip}
use Rattle.scf_insn.specs.declared.insn.Insn.{Insn}
use Rattle.scf_insn.specs.Answers.{rank_of}
use Rattle.scf_insn.specs.Kernel.{seccomp_ret_allow}
use Rattle.scf_machine.specs.declared.stack.DecidingInsn.{DecidingInsn}
use Rattle.scf_machine.specs.Machine.{EndsAt, RunAnswers}

-- The answer at the first position of least rank.
pub record IsFirstLeast (answers : List ℕ) (answer : ℕ) : Type 0 where
  pub position : ℕ
  pub here : slice_get answers position ≡ Some answer
  pub least : (q other : ℕ) → slice_get answers q ≡ Some other → rank_of answer ≤ℤ rank_of other
  pub first : (q other : ℕ) → q < position → slice_get answers q ≡ Some other → rank_of answer <ℤ rank_of other

-- what answers decide, the newest first: no answer allows
abbrev pub IsDecision : List ℕ → ℕ → Type 0
IsDecision [] decision = decision ≡ seccomp_ret_allow
IsDecision (newest ∷ older) decision = IsFirstLeast (newest ∷ older) decision

-- what decides once a newer answer comes to what the older ones decide: the newer one, unless it has the greater rank
abbrev pub with_newest : ℕ → ℕ → ℕ
with_newest older newest = (if int_lt (rank_of older) (rank_of newest) then older else newest)

-- the answers of the runs of filters over a record, one for each
abbrev pub AreAnswers : List (List Insn) → List ℕ → List ℕ → Type 0
AreAnswers filters words answers = AllZip (λ filter answer. RunAnswers filter words answer) filters answers

-- What a stack of filters, the oldest first, answers to the words of a record: what the answers of the runs of all its
-- filters decide.
pub record StackAnswers (filters : List (List Insn)) (words : List ℕ) (answer : ℕ) : Type 0 where
  pub answers : List ℕ
  pub are : AreAnswers (reverse filters) words answers
  pub decides : IsDecision answers answer

-- the filter at an index of a stack, 0 being the oldest, answers the words of a record so
abbrev pub AnswersAt : List (List Insn) → List ℕ → ℕ → ℕ → Type 0
AnswersAt filters words index answer =
    (filter : List Insn) × (slice_get filters index ≡ Some filter) × RunAnswers filter words answer

-- An instruction of a filter gives a stack its answer to the words of a record: the filter's run ends there in this
-- answer, each newer filter's answer has a greater rank, and no older one's has a lesser rank. (seccomp(2): all filters
-- run, and of those whose action takes precedence the newest one answers.)
pub record GivesDecision (filters : List (List Insn)) (words : List ℕ) (by : DecidingInsn) (answer : ℕ) : Type 0 where
  pub filter : List Insn
  pub here : slice_get filters by.filter ≡ Some filter
  pub ends : EndsAt filter words by.index answer
  pub newer : (i other : ℕ) → by.filter < i → AnswersAt filters words i other → rank_of answer <ℤ rank_of other
  pub older : (i other : ℕ) → i < by.filter → AnswersAt filters words i other → rank_of answer ≤ℤ rank_of other

-- what gives a stack its answer: nothing where there is no filter, which allows
abbrev pub IsDecidedBy : List (List Insn) → List ℕ → Option DecidingInsn → ℕ → Type 0
IsDecidedBy filters words None answer = (filters ≡ []) × (answer ≡ seccomp_ret_allow)
IsDecidedBy filters words (Some by) answer = GivesDecision filters words by answer
