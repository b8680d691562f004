-- What a stack answers, one filter after another.
use Rattle.std.proofs.lemmas.Grind.{common_steps}
use Rattle.scf_machine.proofs.Common.{cases_eq, cases_lt, sym, inl, inr, Option, None, Bool, true, false, if◌then◌else◌, int_lt, length-append, length-take, slice_get_within, ◌≡◌, ◌↔◌, ℕ, zero, suc, ◌+◌, ◌<◌, ◌≤◌, ◌≤ℤ◌, ◌<ℤ◌, List, [], ◌∷◌, ◌++◌, Some, refl, ap, subst, arith, length, get_or, take, reverse, All, slice_get, ints, take_more, take_all, reverse-append, length-reverse, get_or-reverse, Contains, ◌-◌, Insn, rank_of, IsNamed, IsNoMorePermissive, action_half, action_of, nat_tests, seccomp_ret_allow, EndsAt, IsRun, RunAnswers, IsFilter, DecidingInsn, AnswersAt, GivesDecision, IsDecidedBy, IsFirstLeast, IsDecision, AreAnswers, StackAnswers, with_newest}
use Rattle.scf_machine.proofs.Indices.{index_before, index_cases, index_last}
use Rattle.scf_machine.proofs.Meets.{run_once}
use Rattle.scf_machine.proofs.Runs.{runs_safely}

-- ---- one answer decides
first_once : (answers : List ℕ) (m n : ℕ) → IsFirstLeast answers m → IsFirstLeast answers n → m ≡ n
first_once answers m n a b = grind (
  arith,
  ints,
  a.least b.position n b.here,
  b.least a.position m a.here,
  a.first b.position n,
  b.first a.position m,
)

pub decision_once : (answers : List ℕ) (m n : ℕ) → IsDecision answers m → IsDecision answers n → m ≡ n
decision_once answers m n a b = grind (arith, first_once)

-- ---- one answer more
alone : (answer : ℕ) → IsFirstLeast (answer ∷ []) answer
alone answer = grind (arith, ints)

wins : (newest older : ℕ) (answers : List ℕ)
    → IsFirstLeast answers older → rank_of newest ≤ℤ rank_of older → IsFirstLeast (newest ∷ answers) newest
wins newest older answers old le = record {
  position = 0;
  here = refl;
  least = λ q other e. grind (arith, ints, cases_eq q 0, old.least (q - 1) other);
  first = λ q other below here. absurd (omega arith);
}

stays : (newest older : ℕ) (answers : List ℕ)
    → IsFirstLeast answers older → rank_of older <ℤ rank_of newest → IsFirstLeast (newest ∷ answers) older
stays newest older answers old lt = record {
  position = suc old.position;
  here = old.here;
  least = λ q other e. grind (arith, ints, old.least);
  first = λ q other below here. grind (arith, ints, old.first);
}

pub newest_decides : (newest older : ℕ) (answers : List ℕ)
    → IsDecision answers older → rank_of newest ≤ℤ rank_of older → IsDecision (newest ∷ answers) newest
newest_decides newest older answers h1 h2 = grind (arith, alone, wins)

pub older_decides : (newest older : ℕ) (answers : List ℕ)
    → IsDecision answers older → rank_of older <ℤ rank_of newest → IsDecision (newest ∷ answers) older
older_decides newest older answers old lt = grind (arith, ints, stays)

pub decision_with_newest : (answers : List ℕ) (older newest : ℕ)
    → IsDecision answers older → IsDecision (newest ∷ answers) (with_newest older newest)
decision_with_newest answers older newest old = grind (arith, ints, older_decides, newest_decides)

pub decision_is : (answers : List ℕ) → (decision : ℕ) × IsDecision answers decision
decision_is [] = (seccomp_ret_allow, refl)
decision_is (newest ∷ older) =
    let before = decision_is older in (with_newest before.0 newest, decision_with_newest older before.0 newest before.1)

-- ---- stacks
answers_once : (filters : List (List Insn)) (words xs ys : List ℕ)
    → AreAnswers filters words xs → AreAnswers filters words ys → xs ≡ ys
answers_once [] words [] [] a b = refl
answers_once [] words [] (y ∷ ys) a b = absurd b
answers_once [] words (x ∷ xs) ys a b = absurd a
answers_once (filter ∷ filters) words [] ys a b = absurd a
answers_once (filter ∷ filters) words (x ∷ xs) [] a b = absurd b
answers_once (filter ∷ filters) words (x ∷ xs) (y ∷ ys) a b =
    let same = (run_once filter words x y a.0.0 b.0.0 a.0.1 b.0.1).0 in
    let others = answers_once filters words xs ys a.1 b.1 in cc

-- stacks whose filters answer alike answer alike
pub alike_answers : (filters others : List (List Insn)) (words more answers : List ℕ) (m n : ℕ)
    → AreAnswers (reverse filters) words answers
    → AreAnswers (reverse others) more answers → StackAnswers filters words m → StackAnswers others more n → m ≡ n
alike_answers filters others words more answers m n h1 h2 h3 h4 = grind (arith, answers_once, decision_once)

pub stack_answer_once : (filters : List (List Insn)) (words : List ℕ) (m n : ℕ)
    → StackAnswers filters words m → StackAnswers filters words n → m ≡ n
stack_answer_once filters words m n a b = alike_answers filters filters words words a.answers m n a.are a.are a b

pub empty_allows : (words : List ℕ) → StackAnswers [] words (seccomp_ret_allow)
empty_allows words = record { answers = []; are = tt; decides = refl }

answered_by_one : (filter : List Insn) (words answers : List ℕ) (answer : ℕ)
    → AreAnswers (filter ∷ []) words answers → IsDecision answers answer → RunAnswers filter words answer
answered_by_one filter words answers answer are decides = grind (arith, first_once, alone)

pub one_answers : (filter : List Insn) (words : List ℕ) (answer : ℕ)
    → RunAnswers filter words answer ↔ StackAnswers (filter ∷ []) words answer
one_answers filter words answer = (
  λ run. record { answers = answer ∷ []; are = (run, tt); decides = alone answer },
  λ stack. answered_by_one filter words stack.answers answer stack.are stack.decides,
)

pub pushed_answers : (filters : List (List Insn)) (filter : List Insn) (words : List ℕ) (older newest : ℕ)
    → StackAnswers filters words older
    → RunAnswers filter words newest → StackAnswers (filters ++ filter ∷ []) words (with_newest older newest)
pushed_answers filters filter words older newest old run = record {
  answers = newest ∷ old.answers;
  are = rw (reverse-append filters (filter ∷ [])) (run, old.are);
  decides = decision_with_newest old.answers older newest old.decides;
}

-- one filter more in the loop over a stack
pub one_more : (filters : List (List Insn)) (i : ℕ) (d : List Insn) (words : List ℕ) (older newest : ℕ)
    → i < length filters → StackAnswers (take i filters) words older → RunAnswers (get_or filters i d) words newest
    → StackAnswers (take (i + 1) filters) words (with_newest older newest)
one_more filters i d words older newest inside old run =
    grind (arith, common_steps, take_more, pushed_answers, take, get_or)

-- ---- what gives a stack its answer

-- the answer of a filter whose run ends so
answer_at_end : (filters : List (List Insn)) (filter : List Insn) (words : List ℕ) (i index answer other : ℕ)
    → slice_get filters i ≡ Some filter → EndsAt filter words index answer
    → AnswersAt filters words i other → other ≡ answer
answer_at_end filters filter words i index answer other here ends (f, is, run) =
    let filter_run : IsRun f words other run.0 = run.1 in
    let filter_end : IsRun filter words answer ends.0.0 = ends.0.1 in
    grind (arith, run_once filter words other answer run.0 ends.0.0)

-- no filter answers by a lesser rank
at_least : (filters : List (List Insn)) (words : List ℕ) (by : Option DecidingInsn) (answer i other : ℕ)
    → IsDecidedBy filters words by answer → AnswersAt filters words i other → rank_of answer ≤ℤ rank_of other
at_least filters words None answer i other decided (f, is, run) =
    let none : length filters ≡ 0 = ap length decided.0 in absurd (omega (arith, slice_get_within filters i f is))
at_least filters words (Some by) answer i other gives answers = elim (cases_lt i by.filter) [
  | inl below ↦ gives.older i other below answers
  | inr past ↦ grind (arith, ints, cases_eq i by.filter, gives.newer i other, answer_at_end filters gives.filter words i by.index answer other)
]

answer_before : (filters : List (List Insn)) (filter : List Insn) (words : List ℕ) (i other : ℕ)
    → i < length filters → AnswersAt (filters ++ filter ∷ []) words i other → AnswersAt filters words i other
answer_before filters filter words i other inside (f, is, run) = grind (arith, common_steps, index_cases)

newest_gives : (filters : List (List Insn)) (filter : List Insn) (words : List ℕ) (by : Option DecidingInsn)
    (older index newest : ℕ) → IsDecidedBy filters words by older → EndsAt filter words index newest
    → rank_of newest ≤ℤ rank_of older
    → GivesDecision (filters ++ filter ∷ []) words (record { filter = length filters; index = index }) newest
newest_gives filters filter words by older index newest decided ends le = record {
  filter = filter;
  here = index_last filters filter;
  ends = ends;
  newer = λ i other past answers. absurd (omega (
    arith,
    past,
    length-append filters (filter ∷ []),
    slice_get_within (filters ++ filter ∷ []) i answers.0 answers.1,
  ));
  older = λ i other below answers.
      let before = answer_before filters filter words i other below answers in
      grind (arith, ints, at_least filters words by older i other decided before);
}

older_gives : (filters : List (List Insn)) (filter : List Insn) (words : List ℕ) (by : DecidingInsn)
    (older index newest : ℕ) → GivesDecision filters words by older → EndsAt filter words index newest
    → rank_of older <ℤ rank_of newest → GivesDecision (filters ++ filter ∷ []) words by older
older_gives filters filter words by older index newest gives ends lt = record {
  filter = gives.filter;
  here = index_before filters filter by.filter gives.filter gives.here;
  ends = gives.ends;
  newer = λ i other past answers. elim (index_cases filters filter i answers.0 answers.1) [
    | inl before ↦ gives.newer i other past (answers.0, before.1, answers.2)
    | inr last ↦ subst (λ n. rank_of older <ℤ rank_of n) (sym (answer_at_end (filters ++ filter ∷ []) filter words
        i index newest other (rw last.0 (index_last filters filter)) ends answers)) lt
  ];
  older = λ i other below answers.
      let inside = slice_get_within filters by.filter gives.filter gives.here in
      gives.older i other below (answer_before filters filter words i other (omega arith) answers);
}

pushed_so : (filters : List (List Insn)) (filter : List Insn) (words : List ℕ) (by : Option DecidingInsn)
    (older index newest : ℕ) (stays : Bool) → int_lt (rank_of older) (rank_of newest) ≡ stays
    → IsDecidedBy filters words by older → EndsAt filter words index newest
    → IsDecidedBy (filters ++ filter ∷ []) words
    (if stays then by else Some (record { filter = length filters; index = index })) (if stays then older else newest)
pushed_so filters filter words None older index newest true e decided ends =
    absurd (grind (arith, ints, decided.1))
pushed_so filters filter words (Some by) older index newest true e gives ends =
    older_gives filters filter words by older index newest gives ends (grind (arith, ints, e))
pushed_so filters filter words by older index newest false e decided ends =
    newest_gives filters filter words by older index newest decided ends (grind (arith, ints, e))

-- one filter more in the loop that finds what gives the answer
pub one_more_gives : (filters : List (List Insn)) (i : ℕ) (d : List Insn) (words : List ℕ) (by : Option DecidingInsn)
    (older index newest : ℕ) → i < length filters → IsDecidedBy (take i filters) words by older
    → EndsAt (get_or filters i d) words index newest
    → IsDecidedBy (take (i + 1) filters) words (if int_lt (rank_of older) (rank_of newest) then by
    else Some (record { filter = i; index = index })) (with_newest older newest)
one_more_gives filters i d words by older index newest inside decided ends =
    grind (arith, common_steps, length, take, length-take, take_more, get_or, rank_of, pushed_so)

answer_below : (filters : List (List Insn)) (words : List ℕ)
    → All IsFilter filters → (i : ℕ) → i ≤ length filters → (answer : ℕ) × StackAnswers (take i filters) words answer
answer_below filters words each zero le = (seccomp_ret_allow, empty_allows words)
answer_below filters words each (suc i) le =
    let before = answer_below filters words each i (omega arith) in
    let filter = each i [] (omega arith) in
    let run = (runs_safely (get_or filters i []) words filter.valid filter.stored).ends in
    let next = with_newest before.0 run.0 in
    let more : i + 1 ≡ suc i = omega arith in
    (next, rw more at (one_more filters i [] words before.0 run.0 (omega arith) before.1 run.1))

-- each stack of filters answers each record
pub stack_answer_is : (filters : List (List Insn)) (words : List ℕ)
    → All IsFilter filters → (answer : ℕ) × StackAnswers filters words answer
stack_answer_is filters words each =
    rw (take_all (length filters) filters (omega arith)) at
    (answer_below filters words each (length filters) (omega arith))

-- ---- how permissive a stack is
answer_among : (filters : List (List Insn)) (words answers : List ℕ) (filter : List Insn) (answer : ℕ)
    → AreAnswers filters words answers → Contains filters filter → RunAnswers filter words answer
    → (q : ℕ) × (slice_get answers q ≡ Some answer)
answer_among [] words answers filter answer are (i, inside, is) run = absurd (omega (arith, inside))
answer_among (f ∷ filters) words [] filter answer are has run = absurd are
answer_among (f ∷ filters) words (x ∷ answers) filter answer are (zero, inside, is) run =
    let filter_runs : RunAnswers filter words x = subst (λ (g : List Insn). RunAnswers g words x) is are.0 in
    (0, ap Some (run_once filter words x answer filter_runs.0 run.0 filter_runs.1 run.1).0)
answer_among (f ∷ filters) words (x ∷ answers) filter answer are (suc i, inside, is) run =
    let later = answer_among filters words answers filter answer are.1 (i, omega (arith, inside), is) run in
    (suc later.0, later.1)

has_reverse : (filters : List (List Insn)) (filter : List Insn) → Contains filters filter
    → Contains (reverse filters) filter
has_reverse filters filter (i, inside, is) =
    let k = length filters - 1 - i in
    let back : length filters - 1 - k ≡ i = omega (arith, inside) in
    let lt : k < length filters = omega (arith, inside) in
    (k, omega (arith, length-reverse filters, lt), rw (get_or-reverse filters k filter lt, back) is)

least_rank : (answers : List ℕ) (decision answer q : ℕ) → IsDecision answers decision
    → slice_get answers q ≡ Some answer → rank_of decision ≤ℤ rank_of answer
least_rank answers decision answer q decides at = grind (arith, ints)

-- of named actions the lesser rank is no more permissive, and an action without a name denies
pub no_more_by_rank : (answer other : ℕ) → rank_of answer ≤ℤ rank_of other
    → IsNamed (action_of (action_half other)) → IsNoMorePermissive answer other
no_more_by_rank answer other le named = grind (arith, ints, nat_tests)

-- a stack is no more permissive than each of its filters that answers by a named action
pub stack_is_no_more_permissive : (filters : List (List Insn)) (filter : List Insn) (words : List ℕ)
    (decision answer : ℕ)
    → Contains filters filter → StackAnswers filters words decision → RunAnswers filter words answer
    → IsNamed (action_of (action_half answer)) → IsNoMorePermissive decision answer
stack_is_no_more_permissive filters filter words decision answer has stack run named =
    let at = answer_among (reverse filters) words stack.answers filter answer stack.are
    (has_reverse filters filter has) run in
    no_more_by_rank decision answer (least_rank stack.answers decision answer at.0 stack.decides at.1) named

pub ruleset decision_laws = (decision_is, decision_once, decision_with_newest)
