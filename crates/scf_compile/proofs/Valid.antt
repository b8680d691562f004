-- The code of a filter keeps the rules of the checker, and answers within its bounds.
use Rattle.scf_profile.proofs.Answering.{of_only}
use Rattle.scf_compile.proofs.Common.{◌≡◌, ℕ, zero, suc, ◌+◌, ◌-◌, ◌<◌, ◌≤◌, true, false, Bool, Some, List, [], ◌∷◌, length, max, refl, arith, get_or, same_Some, slice_get, slice_get-get_or, Insn, Operation, return_with, LoadScratch, bpf_maxinsns, RunAnswers, IsPlainProgram, Stands, IsFine, IsFineAt, IsReturn, IsValidList, KeepsScratchRule, run_once, words_of, sum_by-cons, All, All-cons, Profile, IsPlainProfile, SameAnswers, SameAnswersAsEach, AnswersWithin, search_bound_of, search_bound_of_each, size_bound_of, size_bound_of_each, IsFilterOf, Keeps, IsSound, AreSound, nat_tests, common_steps}

-- ---- the rules of the checker

fine_of : (operation : Operation) (i : Insn) (len index behind : ℕ) → index + 1 + behind ≡ len
    → Keeps operation i behind → IsFine len index i operation
fine_of operation i len index behind e h = grind arith

-- what stands at an index is sound, with so many instructions behind it
sound_at : {plain : Bool} (is : List Insn) (index : ℕ) (i : Insn) → AreSound plain is → slice_get is index ≡ Some i
    → (behind : ℕ) × (index + 1 + behind ≡ length is) × IsSound plain i behind
sound_at [] index i sound here = absurd (cc)
sound_at (x ∷ xs) zero i sound here = (length xs, omega arith, rw (same_Some x i here) at sound.0)
sound_at (x ∷ xs) (suc index) i sound here = grind (arith, common_steps, nat_tests, sound_at xs index i sound.1 here)

-- what its operation keeps there
kept_at : (is : List Insn) (index : ℕ) (i : Insn) (operation : Operation) → AreSound false is
    → Stands is index i operation → (behind : ℕ) × (index + 1 + behind ≡ length is) × Keeps operation i behind
kept_at is index i operation sound stands = grind (arith, common_steps, nat_tests, sound_at, same_Some)

fine_at : (is : List Insn) (index : ℕ) → AreSound false is → index < length is → IsFineAt is index
fine_at is index sound lt =
    let here = slice_get-get_or is index (return_with 0) lt in
    let there = sound_at is index _ sound here in
    record {
      insn = get_or is index (return_with 0);
      operation = there.2.operation;
      stands = record { here = here; known = there.2.is_operation };
      fine = fine_of there.2.operation _ (length is) index there.0 there.1 there.2.keeps;
    }

-- nothing stands behind the last instruction, so that it can only answer
returns_at_end : (operation : Operation) (i : Insn) → Keeps operation i 0 → IsReturn operation
returns_at_end operation i h = grind arith

-- ---- what a filter promises

module _ {ps : List Profile} {code : List Insn} (filter : IsFilterOf ps code) where
  unasked : AreSound false code
  unasked = filter.sound false (λ e. absurd (cc))

  -- Code that isn't too long keeps the rules at each index, and of any length the rule on scratch words.
  pub sound_is_valid : length code ≤ bpf_maxinsns → IsValidList code
  sound_is_valid few = record {
    some = filter.some;
    few = few;
    each = λ index lt. fine_at code index unasked lt;
    last = λ i operation stands.
        let last_insn = kept_at code (length code - 1) i operation unasked stands in
        let last : last_insn.0 ≡ 0 = omega (arith, last_insn.1, filter.some) in
        returns_at_end operation i (rw last at last_insn.2);
  }

  -- no instruction loads a scratch word
  pub keeps_scratch_rule : KeepsScratchRule code
  keeps_scratch_rule index n u = (kept_at code index u.insn (LoadScratch u.register) unasked u.loads).2

  pub is_plain : All IsPlainProfile ps → IsPlainProgram code
  is_plain plain k d lt =
      let there = (sound_at code k _ (filter.sound true (λ _. plain)) (slice_get-get_or code k d lt)).2 in
      record { operation = there.operation; known = there.is_operation; plain = there.is_plain refl }

  pub answers_same : SameAnswersAsEach (RunAnswers code) ps
  answers_same call fits = grind (arith, common_steps, nat_tests)

  pub answers_within : AnswersWithin code (search_bound_of_each ps)
  answers_within call fits answer steps run =
      let call_answer = filter.answered call fits in
      let of_words = call_answer.of_words in
      omega (
        arith,
        of_words.few,
        (run_once code (words_of call) call_answer.answer answer of_words.steps steps of_words.run run).1,
      )

-- ---- one profile

module _ (p : Profile) where
  pub one_same : (answers : List ℕ → ℕ → Type 0) → SameAnswersAsEach answers (p ∷ []) → SameAnswers answers p
  one_same answers same call fits = grind (arith, common_steps, of_only)

  pub one_search_bound : search_bound_of_each (p ∷ []) ≡ search_bound_of p
  one_search_bound = omega arith

  pub one_size_bound : size_bound_of_each (p ∷ []) ≡ size_bound_of p
  one_size_bound = omega (arith, sum_by-cons size_bound_of p [])

  pub one_sized : (code : List Insn) → length code ≤ max 2 (size_bound_of_each (p ∷ [])) → length code ≤ size_bound_of p
  one_sized code few = omega (arith, one_size_bound, few)

  pub one_plain : IsPlainProfile p → All IsPlainProfile (p ∷ [])
  one_plain plain = All-cons IsPlainProfile p [] plain (λ k d lt. absurd (omega arith))
