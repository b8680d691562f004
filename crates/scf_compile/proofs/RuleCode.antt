-- The code of rules, and what is put before some code.
use Rattle.scf_compile.proofs.Common.{◌≡◌, ℕ, ◌+◌, ◌-◌, ◌*◌, ◌<◌, ◌≤◌, Bool, true, false, cond, leb, List, [], ◌∷◌, ◌++◌, length, ap, ◌∙◌, arith, inl, inr, length-append, append_assoc, sum_by, length-drop, AllByRecursion, cases_Bool, recursion_from_All, sum_by-cons, drop-append-add, Insn, Answer, Architecture, CallRecord, Test, JumpIf, Constant, words_of, IsRecord, test_holds, IsPlainOperation, Condition, Rule, IsPlainCondition, all_hold, IsCondition, IsRule, Position, rule_bound, jump_if, jump_over, return_with, branch_code, code_from, IsFirst, IsPut, conditions_code, behind_rule, rule_code, Answers, AnswersRules, ArePut, Operation, Keeps, IsPart, moved, at, map, length-map, chain_of_part, answer_of_part, part_between, EndsWithin, AreSound, rules_bound, nat_tests, common_steps}
use Rattle.scf_compile.proofs.Runs.{more, past, answers, jumps, passes, jump_sound, pass_sound, return_sound}
use Rattle.scf_compile.proofs.Tests.{conditions_tests}

-- ---- more code behind

-- what an instruction keeps, it keeps with more behind it
keeps_more : (operation : Operation) (i : Insn) (behind more : ℕ) → behind ≤ more → Keeps operation i behind
    → Keeps operation i more
keeps_more operation i behind more le h = grind arith

sound_before : (asked : Bool) (code behind : List Insn) → AreSound asked code → AreSound asked behind
    → AreSound asked (code ++ behind)
sound_before asked [] behind s t = t
sound_before asked (i ∷ is) behind s t =
    grind (arith, common_steps, nat_tests, keeps_more, length-append, sound_before asked is behind s.1 t)

-- code that ends is the same with more behind it
ends_before : {words : List ℕ} {code : List Insn} {a answer most : ℕ} (behind : List Insn)
    → EndsWithin words code a answer most → EndsWithin words (code ++ behind) a answer most
ends_before {words} {code} {a} {answer} behind e =
    let is : IsPart code 0 (code ++ behind) = part_between [] code behind in
    let run = e.run in
    record {
      steps = e.steps;
      run = record {
        last = moved 0 run.last;
        earlier = map (moved 0) run.earlier;
        chain = chain_of_part (code ++ behind) code 0 words (at 0 a) run.last run.earlier is run.chain;
        answers = answer_of_part (code ++ behind) code 0 words run.last answer is run.answers;
        count = let e = run.count in omega (arith, length-map run.earlier (moved 0));
      };
      few = e.few;
    }

-- ---- rules

pub return_answers : (answer most : ℕ) (plain : Type 0) → 0 < most
    → Answers (return_with answer ∷ []) most plain (λ _. answer)
return_answers answer most plain lt = record {
  some = omega arith;
  len = omega arith;
  sound = λ asked is. (return_sound answer, tt);
  ends = λ call fits a. more {m = 1} (answers answer a) lt;
}

-- A rule answers where its conditions hold, and else what stands behind it: nothing behind one without conditions.
rule_answers : (a : Architecture) (cs : List Condition) (answer n most : ℕ) (others : List Insn) (p plain : Type 0)
    (f : CallRecord → ℕ)
    → AllByRecursion IsCondition cs → Answers others n p f → (plain → AllByRecursion IsPlainCondition cs × p)
    → 8 * length cs + n ≤ most
    → Answers ((conditions_code a cs ++ return_with answer ∷ []) ++ behind_rule cs others) most plain
    (λ call. cond (all_hold a call cs) answer (f call))
rule_answers a [] answer n most others p plain f fine next parts le =
    return_answers answer most plain (omega (arith, next.some, next.len))
rule_answers a (c ∷ cs) answer n most others p plain f fine next parts le =
    let t = conditions_tests a (c ∷ cs) fine in
    let conditions = conditions_code a (c ∷ cs) in
    let answer_code = return_with answer ∷ [] in
    let whole = length-append (conditions ++ answer_code) others in
    record {
      some = omega (arith, next.some, whole);
      len = omega (arith, t.len, next.len, whole, length-append conditions answer_code);
      sound = λ asked is.
          rw (append_assoc conditions answer_code others)
          (t.sound asked (answer_code ++ others) (λ e. (parts (is e)).0) (omega arith) (omega (arith, next.some))
          (return_sound answer, next.sound asked (λ e. (parts (is e)).1)));
      ends = λ call fits acc.
          rw (append_assoc conditions answer_code others)
          (more (t.ends call fits (answer_code ++ others) _ (1 + n) acc
          (λ e b. rw e (more {m = 1} (answers answer b) (omega arith)))
          (λ e b. rw e (more (next.ends call fits b) (omega arith)))) (omega arith));
    }

pub rules_bounded : (rs : List Rule) → (3 ≤ rules_bound rs) × (rules_bound rs ≤ 3 + sum_by rule_bound rs)
rules_bounded rs = grind (arith, common_steps, nat_tests, sum_by-cons)

-- One rule more is fewer instructions than its bound, since nothing stands behind a rule without conditions.
pub rule_more : (a : Architecture) (default : Answer) (r : Rule) (rs : List Rule) (code : List Insn) → IsRule a r
    → AnswersRules a default rs code
    → AnswersRules a default (r ∷ rs) (rule_code a r ++ behind_rule r.conditions code)
rule_more a default r rs code fine next =
    let sum = sum_by-cons rule_bound r rs in
    let bounded = rules_bounded rs in
    rule_answers a r.conditions r.answer.0 _ _ _ _ _ _ fine.conditions.each next
    (λ plain. (recursion_from_All IsPlainCondition r.conditions plain.0.conditions, plain.1)) (omega arith)

-- ---- what is put before some code

-- what stands from an index on stays where more is put before it
pub from_behind : (front code : List Insn) (index : Position) → index.0 ≤ length code
    → code_from index (front ++ code) ≡ code_from index code
from_behind front code index le = grind (arith, common_steps, length-append, drop-append-add)

-- the first index of some code
pub from_first : (code : List Insn) (index : Position) → index.0 ≡ length code → code_from index code ≡ code
from_first code index is = grind (arith, common_steps, nat_tests)

-- code that answers is put before some code, or stands there
pub answers_put : {block before after : List Insn} {index : Position} {most : ℕ} {p : Type 0} {f : CallRecord → ℕ}
    (plain : Type 0) → Answers block most p f → (plain → p) → IsPut block before after index
    → ArePut plain before after index
answers_put {block} {before} {after} {index} plain is simple put =
    let there = ap (λ (l : List Insn). length l) put.there ∙ length-append block put.behind in
    record {
      longer = omega (arith, ap (λ (l : List Insn). length l) put.whole, length-append put.front before);
      stays = λ p le. ap (code_from p) put.whole ∙ from_behind put.front before p le;
      some = omega (arith, is.some, put.near.stands, there, length-drop (length after - index.0) after);
      near = put.near;
      sound = λ asked e s. rw put.whole (elim put.put [
        | inl none ↦ rw none s
        | inr all ↦ rw all (sound_before asked block before (is.sound asked (λ h. simple (e h))) s)
      ]);
    }

pub answers_there : {block before after : List Insn} {index : Position} {most : ℕ} {p : Type 0} {f : CallRecord → ℕ}
    → Answers block most p f → IsPut block before after index → (call : CallRecord) → IsRecord call → (a : ℕ)
    → EndsWithin (words_of call) (code_from index after) a (f call) most
answers_there is put call fits a = rw put.there (ends_before put.behind (is.ends call fits a))

-- ---- a branch that is put before some code

module _ (test : Test) (constant : ℕ) (hit miss : Position) {before after : List Insn} {index : Position}
    (put : IsFirst (branch_code test constant (length before - hit.0) (length before - miss.0)) before after
    index) where
  -- it goes to both indices in as many steps as it has instructions, at most
  pub branch_ends : {words : List ℕ} {answer most : ℕ} (a n : ℕ) → length after ≤ n + length before
      → (test_holds test a constant ≡ true → EndsWithin words (code_from hit before) a answer most)
      → (test_holds test a constant ≡ false → EndsWithin words (code_from miss before) a answer most)
      → EndsWithin words after a answer (n + most)
  branch_ends a n few over under =
      let to_hit = length before - hit.0 in
      let to_miss = length before - miss.0 in
      let len = ap (λ (l : List Insn). length l) put.whole in
      rw put.whole (elim (cases_Bool (leb to_miss 255)) [
        | inl near ↦ rw near (more (jumps test constant to_hit to_miss a over under) (omega (arith, rw near at len)))
        | inr far ↦ rw far (more (jumps test constant (1 + to_hit) 0 a
            (λ e. more (past (jump_over to_miss ∷ []) before to_hit a (over e)) (omega arith))
            (λ e. passes to_miss a (under e))) (omega (arith, rw far at len)))
      ])

  pub branch_sound : (plain : Bool)
      → ((h m : ℕ) → IsPlainOperation (JumpIf test Constant) (jump_if test constant h m))
      → length before - hit.0 < length before → length before - miss.0 < length before
      → AreSound plain before → AreSound plain after
  branch_sound plain is h m s = grind (arith, common_steps, nat_tests, cases_Bool, jump_sound, pass_sound)

  pub branch_stays : (length before ≤ length after)
      × ((p : Position) → p.0 ≤ length before → code_from p after ≡ code_from p before)
  branch_stays = grind (arith, common_steps, nat_tests, length-append, from_behind)
