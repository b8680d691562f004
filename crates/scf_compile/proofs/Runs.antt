-- What each instruction does, and that it is sound.
use Rattle.scf_compile.proofs.Common.{◌≡◌, ℕ, suc, ◌+◌, ◌*◌, ◌/◌, ◌%◌, ◌<◌, ◌≤◌, Bool, true, false, ltb, List, [], ◌∷◌, ◌++◌, length, map, drop, refl, subst, arith, bit_and, slice_index, IsTrue, Some, inl, inr, length-drop, drop-append-add, cases_Bool, lt-ltb, common_steps, gets, slice_get_within, slice_get_read, length-map, Insn, Test, Constant, And, operation_of, Operation, LoadWord, Compute, Jump, JumpIf, ReturnConstant, asks_for, Goes, step, holds, IsPart, moved, IsPlainOperation, run_behind, chain_of_part, answer_of_part, IsRunFrom, load_word, and_with, jump_if, jump_over, return_with, at, EndsWithin, IsSound, Keeps, nat_tests}

pub more : {words : List ℕ} {code : List Insn} {a answer m most : ℕ} → EndsWithin words code a answer m → m ≤ most
    → EndsWithin words code a answer most
more e le = record { steps = e.steps; run = e.run; few = omega (arith, e.few) }

-- what is behind an instruction, from some index on, is a part of the whole
behind_is_part : (i : Insn) (behind : List Insn) (count : ℕ) → IsPart (drop count behind) (1 + count) (i ∷ behind)
behind_is_part i behind count index insn here =
    grind (arith, common_steps, slice_get_within, gets, slice_get_read, length-drop)

module _ {words : List ℕ} {behind : List Insn} {answer most : ℕ} where
  -- an instruction, and the code where it goes on
  continues : (i : Insn) (count a b : ℕ) → step (i ∷ behind) words (at 0 a) ≡ Goes (at (1 + count) b)
      → EndsWithin words (drop count behind) b answer most → EndsWithin words (i ∷ behind) a answer (suc most)
  continues i count a b goes e =
      let n = 1 + count in
      let is = behind_is_part i behind count in
      let part = drop count behind in
      let run = e.run in
      let moved_run : IsRunFrom (i ∷ behind) words (moved n (at 0 b)) answer e.steps = record {
        last = moved n run.last;
        earlier = map (moved n) run.earlier;
        chain = chain_of_part (i ∷ behind) part n words (at 0 b) run.last run.earlier is run.chain;
        answers = answer_of_part (i ∷ behind) part n words run.last answer is run.answers;
        count = let e = run.count in omega (arith, length-map run.earlier (moved n));
      } in
      let same : n + 0 ≡ n = omega arith in
      record {
        steps = 1 + e.steps;
        run = run_behind (i ∷ behind) words (at 0 a) (at n b) (at 0 a ∷ []) answer e.steps (goes, refl)
            (subst (λ (p : ℕ). IsRunFrom (i ∷ behind) words (at p b) answer e.steps) same moved_run);
        few = omega (arith, e.few);
      }

  pub loads : {n : ℕ} (word a : ℕ) → word < 16 → slice_index words word ≡ n → EndsWithin words behind n answer most
      → EndsWithin words (load_word word ∷ behind) a answer (suc most)
  loads {n} word a lt is e =
      let small : ltb (4 * word) 64 ≡ true = lt-ltb (4 * word) 64 (omega arith) in
      let aligned : (4 * word) % 4 ≡ 0 = omega arith in
      let index : (4 * word) / 4 ≡ word = omega arith in
      continues (load_word word) 0 a n (rw (asks_for LoadWord) (rw (small, aligned, index, is) refl)) e

  pub masks : (mask a : ℕ) → EndsWithin words behind (bit_and a mask) answer most
      → EndsWithin words (and_with mask ∷ behind) a answer (suc most)
  masks mask a e = continues (and_with mask) 0 a (bit_and a mask) (rw (asks_for (Compute And Constant)) refl) e

  pub passes : (count a : ℕ) → EndsWithin words (drop count behind) a answer most
      → EndsWithin words (jump_over count ∷ behind) a answer (suc most)
  passes count a e = continues (jump_over count) count a a (rw (asks_for Jump) refl) e

  pub jumps : (test : Test) (constant hit miss a : ℕ)
      → (holds test a constant ≡ true → EndsWithin words (drop hit behind) a answer most)
      → (holds test a constant ≡ false → EndsWithin words (drop miss behind) a answer most)
      → EndsWithin words (jump_if test constant hit miss ∷ behind) a answer (suc most)
  jumps test constant hit miss a over under = elim (cases_Bool (holds test a constant)) [
    | inl met ↦ continues (jump_if test constant hit miss) hit a a (rw (asks_for (JumpIf test Constant), met) refl)
        (over met)
    | inr unmet ↦ continues (jump_if test constant hit miss) miss a a (rw (asks_for (JumpIf test Constant), unmet) refl)
        (under unmet)
  ]

pub answers : {words : List ℕ} {behind : List Insn} {most : ℕ} (answer a : ℕ)
    → EndsWithin words (return_with answer ∷ behind) a answer (suc most)
answers answer a = record {
  steps = 1;
  run = record { last = at 0 a; earlier = []; chain = refl; answers = rw (asks_for ReturnConstant) refl; count = refl };
  few = omega arith;
}

-- what stands behind a piece that is passed
pub past : {words : List ℕ} {answer most : ℕ} (front behind : List Insn) (count a : ℕ)
    → EndsWithin words (drop count behind) a answer most
    → EndsWithin words (drop (length front + count) (front ++ behind)) a answer most
past front behind count a e = rw (drop-append-add front behind count) e

-- ---- each of them is sound

module _ {plain : Bool} {behind : ℕ} where
  sound_of : (i : Insn) (operation : Operation) → operation_of i.code ≡ Some operation → Keeps operation i behind
      → (IsTrue plain → IsPlainOperation operation i) → IsSound plain i behind
  sound_of i operation is_operation keeps is = grind (arith, common_steps, nat_tests)

  pub load_sound : (word : ℕ) → word < 16 → 0 < behind → IsSound plain (load_word word) behind
  load_sound word lt some =
      sound_of (load_word word) LoadWord (asks_for LoadWord) (omega arith, omega arith, some) (λ _. tt)

  pub mask_sound : (mask : ℕ) → (IsTrue plain → ⊥) → 0 < behind → IsSound plain (and_with mask) behind
  mask_sound mask unasked some = sound_of (and_with mask) (Compute And Constant) (asks_for (Compute And Constant)) some
      (λ asked. absurd (unasked asked))

  pub jump_sound : (test : Test) (constant hit miss : ℕ) → hit < behind → miss < behind
      → (IsTrue plain → IsPlainOperation (JumpIf test Constant) (jump_if test constant hit miss))
      → IsSound plain (jump_if test constant hit miss) behind
  jump_sound test constant hit miss h m is =
      sound_of (jump_if test constant hit miss) (JumpIf test Constant) (asks_for (JumpIf test Constant)) (h, m) is

  pub pass_sound : (count : ℕ) → count < behind → IsSound plain (jump_over count) behind
  pass_sound count lt = sound_of (jump_over count) Jump (asks_for Jump) lt (λ _. tt)

  pub return_sound : (answer : ℕ) → IsSound plain (return_with answer) behind
  return_sound answer = sound_of (return_with answer) ReturnConstant (asks_for ReturnConstant) tt (λ _. tt)
