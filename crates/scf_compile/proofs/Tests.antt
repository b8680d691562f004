-- The code of a condition: how long it is, that it is sound, and how it goes on.
use Rattle.scf_compile.proofs.Common.{◌≡◌, ℕ, ◌+◌, ◌*◌, ◌<◌, ◌≤◌, ◌^◌, ◌≢◌, Bool, true, false, cond, eqb, ltb, not, List, [], ◌∷◌, ◌++◌, drop, length, refl, sym, ap, ◌∙◌, arith, append_assoc, bit_and, length-append, slice_index, IsTrue, AllByRecursion, eqb-true, eqb-false, nat_tests, and_mask, and_shr, and_mod, and_assoc, Insn, CallRecord, Test, SameWord, Above, AtLeast, CommonBit, JumpIf, Constant, MaskKind, Empty, OneBit, Full, Mixed, mask_kind, IsSimpleMask, low, high, words_of, argument, IsRecord, argument_low, argument_high, IsOfKind, is_of_kind, test_holds, IsPlainOperation, Condition, IsPlainCondition, all_hold, IsCondition, jump_if, word_code, order_code, bit_code, half_code_of, half_code, masked_code, test_code, exits, condition_code, argument_word, conditions_code, wide_code, narrow_code, value_of, jump_over, Architecture, ArgumentBits, Bits32, Bits64, taken_of, argument_in, row_of, leb, ne_eqb, EndsWithin, AreSound, ◌-◌, inl, inr, ◌⊎◌, IsPowerOfTwo, bit_at, and_zero_r, cases_eq, eq-eqb, and_pow, bit_at-lt, common_steps}
use Rattle.scf_profile.specs.Condition.{condition_holds}
use Rattle.scf_profile.specs.declared.number_test.NumberTest.{NumberTest}
use Rattle.scf_profile.specs.declared.number_test.NumberTest.TheVariants as tests
use Rattle.scf_profile.specs.NumberTests.{IsPlainTest, comes_to, test_of, tree_answer}
use Rattle.scf_profile.proofs.NumberTests.{decides, plain_of}
use Rattle.scf_compile.proofs.Runs.{more, past, loads, masks, jumps, passes, load_sound, mask_sound, jump_sound, pass_sound}

-- ---- what a word has under a mask, by the kind of the mask

-- under no bit each word has what is wanted
under_empty : (n mask wanted : ℕ) → mask ≡ 0 → bit_and wanted mask ≡ wanted → eqb (bit_and n mask) wanted ≡ true
under_empty n mask wanted none within =
    let nothing : (m : ℕ) → bit_and m mask ≡ 0 = λ m. ap (λ (k : ℕ). bit_and m k) none ∙ and_zero_r m in
    eq-eqb (bit_and n mask) wanted (nothing n ∙ sym (nothing wanted) ∙ within)

nothing_within : (mask wanted : ℕ) → mask ≡ 0 → bit_and wanted mask ≡ wanted → wanted ≡ 0
nothing_within mask wanted none within = sym within ∙ ap (λ (m : ℕ). bit_and wanted m) none ∙ and_zero_r wanted

-- a word under all bits is itself
under_full : (n mask : ℕ) → n < 2 ^ 32 → mask ≡ 2 ^ 32 - 1 → bit_and n mask ≡ n
under_full n mask lt all = ap (λ (k : ℕ). bit_and n k) all ∙ and_mask n 32 ∙ omega arith

-- a word under one bit is nothing or the bit
under_power : (n k : ℕ) → (bit_and n (2 ^ k) ≡ 0) ⊎ (bit_and n (2 ^ k) ≡ 2 ^ k)
under_power n k = elim (cases_eq (bit_at n k) 0) [
  | inl none ↦ inl (and_pow n k ∙ ap (λ (b : ℕ). b * 2 ^ k) none ∙ omega arith)
  | inr some ↦ inr (let bit : bit_at n k ≡ 1 = omega (arith, bit_at-lt n k) in
      and_pow n k ∙ ap (λ (b : ℕ). b * 2 ^ k) bit ∙ omega arith)
]

-- so where the bit is wanted, a word has it exactly where it isn't nothing
wanted_of_power : (n mask wanted : ℕ) → IsPowerOfTwo mask → bit_and wanted mask ≡ wanted → wanted ≢ 0
    → not (eqb (bit_and n mask) 0) ≡ eqb (bit_and n mask) wanted
wanted_of_power n mask wanted power within some = grind (arith, common_steps, nat_tests, under_power)

-- The code tests something of a call, in no more than so many instructions and steps: it goes on `hit` instructions
-- behind it where this is met, and else `miss`.
pub record Tests (code : List Insn) (hit miss most : ℕ) (plain : Type 0) (met : CallRecord → Bool) : Type 0 where
  pub len : length code ≤ most
  pub sound : (asked : Bool) (behind : List Insn) → (IsTrue asked → plain) → hit < length behind → miss < length behind
      → AreSound asked behind → AreSound asked (code ++ behind)
  pub ends : (call : CallRecord) → IsRecord call → (behind : List Insn) (answer left a : ℕ)
      → (met call ≡ true → (b : ℕ) → EndsWithin (words_of call) (drop hit behind) b answer left)
      → (met call ≡ false → (b : ℕ) → EndsWithin (words_of call) (drop miss behind) b answer left)
      → EndsWithin (words_of call) (code ++ behind) a answer (most + left)

-- no code is a test that is always met
no_tests : (miss : ℕ) (plain : Type 0) → Tests [] 0 miss 0 plain (λ _. true)
no_tests miss plain = record {
  len = omega arith;
  sound = λ asked behind is h m s. s;
  ends = λ call fits behind answer left a over under. more (over refl a) (omega arith);
}

-- the same test, said in other words
tests_as : {code : List Insn} {hit miss : ℕ} {p : Type 0} {f : CallRecord → Bool} (most n : ℕ) (q : Type 0)
    (g : CallRecord → Bool) → Tests code hit miss most p f → most ≤ n → (q → p)
    → ((call : CallRecord) → IsRecord call → f call ≡ g call) → Tests code hit miss n q g
tests_as most n q g t le plain same = record {
  len = omega (arith, t.len);
  sound = λ asked behind is. t.sound asked behind (λ h. plain (is h));
  ends = λ call fits behind answer left a over under.
      let is = same call fits in
      more (t.ends call fits behind answer left a (λ e. over (sym is ∙ e)) (λ e. under (sym is ∙ e)))
      (omega arith);
}

-- the opposite test has the exits exchanged
opposite : {code : List Insn} {hit miss most : ℕ} {p : Type 0} {f : CallRecord → Bool} (g : CallRecord → Bool)
    → Tests code hit miss most p f → ((call : CallRecord) → not (f call) ≡ g call) → Tests code miss hit most p g
opposite g t is = record {
  len = t.len;
  sound = λ asked behind plain h m. t.sound asked behind plain m h;
  ends = λ call fits behind answer left a over under.
      t.ends call fits behind answer left a (λ e. under (sym (is call) ∙ ap not e))
      (λ e. over (sym (is call) ∙ ap not e));
}

-- two tests: where both are met the code goes on `hit` instructions behind them, else `miss`
both : {first second : List Insn} {hit miss m n : ℕ} {p q : Type 0} {f g : CallRecord → Bool}
    → Tests first 0 (length second + miss) m p f → Tests second hit miss n q g
    → Tests (first ++ second) hit miss (m + n) (p × q) (λ call. cond (f call) (g call) false)
both {first} {second} {hit} {miss} {m} {n} {p} {q} {f} {g} s t = record {
  len = omega (arith, s.len, t.len, length-append first second);
  sound = λ asked behind plain h w is.
      let len = length-append second behind in
      rw (append_assoc first second behind) (s.sound asked (second ++ behind) (λ e. (plain e).0) (omega arith)
      (omega arith) (t.sound asked behind (λ e. (plain e).1) h w is));
  ends = λ call fits behind answer left a over under.
      rw (append_assoc first second behind)
      (more (s.ends call fits (second ++ behind) answer (n + left) a
      (λ e b. t.ends call fits behind answer left b (λ d. over (rw e d)) (λ d. under (rw e d)))
      (λ e b. more (past second behind miss b (under (rw e refl) b)) (omega arith))) (omega arith));
}

-- a word of the record against a constant
word_tests : (word : ℕ) (n : CallRecord → ℕ) (test : Test) (constant hit miss : ℕ) → word < 16
    → ((call : CallRecord) → slice_index (words_of call) word ≡ n call)
    → Tests (word_code test word constant hit miss) hit miss 2
    (IsPlainOperation (JumpIf test Constant) (jump_if test constant hit miss))
    (λ call. test_holds test (n call) constant)
word_tests word n test constant hit miss lt is = record {
  len = omega arith;
  sound = λ asked behind plain h m s.
      (load_sound word lt (omega arith), (jump_sound test constant hit miss h m plain, s));
  ends = λ call fits behind answer left a over under.
      more (loads word a lt (is call) (jumps test constant hit miss (n call) (λ e. over e (n call))
      (λ e. under e (n call)))) (omega arith);
}

-- ---- a word under a mask

module _ (word : ℕ) (n : CallRecord → ℕ) (lt : word < 16)
    (is : (call : CallRecord) → slice_index (words_of call) word ≡ n call)
    (fits : (call : CallRecord) → IsRecord call → n call < 2 ^ 32) (mask wanted hit miss : ℕ)
    (within : bit_and wanted mask ≡ wanted) where
  abbrev is_wanted : CallRecord → Bool
  is_wanted call = eqb (bit_and (n call) mask) wanted

  bit_tests : (none : Bool) → eqb wanted 0 ≡ none → (wanted ≢ 0 → IsOfKind OneBit mask)
      → Tests (cond none (word_code CommonBit word mask miss hit) (word_code CommonBit word mask hit miss)) hit miss 3
      (IsSimpleMask mask) is_wanted
  bit_tests true none power =
      tests_as 2 3 (IsSimpleMask mask) is_wanted
      (opposite is_wanted (word_tests word n CommonBit mask miss hit lt is)
      (λ call. let zero : wanted ≡ 0 = eqb-true wanted 0 none in grind (arith, nat_tests))) (omega arith) (λ s. s)
      (λ call h. refl)
  bit_tests false some power =
      let there = eqb-false wanted 0 some in
      tests_as 2 3 (IsSimpleMask mask) is_wanted (word_tests word n CommonBit mask hit miss lt is) (omega arith) (λ s. s)
      (λ call h. wanted_of_power (n call) mask wanted (power there) within there)

  -- no bit: there is nothing to be tested, save to pass what stands behind
  none_tests : (next : Bool) → eqb hit 0 ≡ next → IsOfKind Empty mask
      → Tests (cond next [] (bit_code word mask wanted hit miss)) hit miss 3 (IsSimpleMask mask) is_wanted
  none_tests true next empty =
      tests_as 0 3 (IsSimpleMask mask) is_wanted (rw (eqb-true hit 0 next) (no_tests miss (IsSimpleMask mask)))
      (omega arith) (λ s. s) (λ call h. sym (under_empty (n call) mask wanted empty within))
  none_tests false behind empty =
      bit_tests (eqb wanted 0) refl (λ some. absurd (some (nothing_within mask wanted empty within)))

  by_kind : (kind : MaskKind) → IsOfKind kind mask
      → Tests (half_code_of kind word mask wanted hit miss) hit miss 3 (IsSimpleMask mask) is_wanted
  by_kind Empty kind = none_tests (eqb hit 0) refl kind
  by_kind OneBit kind = bit_tests (eqb wanted 0) refl (λ _. kind)
  by_kind Full kind =
      tests_as 2 3 (IsSimpleMask mask) is_wanted (word_tests word n SameWord wanted hit miss lt is) (omega arith) (λ s. tt)
      (λ call h. ap (λ (m : ℕ). eqb m wanted) (sym (under_full (n call) mask (fits call h) kind)))
  by_kind Mixed kind = record {
    len = omega arith;
    sound = λ asked behind plain h m s. (
      load_sound word lt (omega arith),
      (mask_sound mask (λ e. kind (plain e)) (omega arith), (jump_sound SameWord wanted hit miss h m (λ _. tt), s)),
    );
    ends = λ call h behind answer left a over under.
        more (loads word a lt (is call) (masks mask (n call)
        (jumps SameWord wanted hit miss (bit_and (n call) mask) (λ e. over e _) (λ e. under e _)))) (omega arith);
  }

  half_tests : Tests (half_code word mask wanted hit miss) hit miss 3 (IsSimpleMask mask) is_wanted
  unfolding half_code
  half_tests = by_kind (mask_kind mask) (is_of_kind mask)

-- ---- no test

-- what is never met is passed
skip_tests : (hit miss : ℕ) (none : Bool) → eqb miss 0 ≡ none
    → Tests (cond none [] (jump_over miss ∷ [])) hit miss 1 (Unit {0}) (λ _. false)
skip_tests hit miss true none = record {
  len = omega arith;
  sound = λ asked behind is h m s. s;
  ends = λ call fits behind answer left a over under.
      more (rw (eqb-true miss 0 none) at (under refl a)) (omega arith);
}
skip_tests hit miss false some = record {
  len = omega arith;
  sound = λ asked behind is h m s. (pass_sound miss m, s);
  ends = λ call fits behind answer left a over under. more (passes miss a (under refl a)) (omega arith);
}

-- ---- a number below 2^32

-- its high half is nothing, so that a value that fits a word is compared with its low one
narrow_masked : (mask value n : ℕ) → n < 2 ^ 32 → high value ≡ 0
    → eqb (bit_and n (low mask)) (low value) ≡ tree_answer (tests.Masked mask value) n
narrow_masked mask value n lt fits = grind (arith, common_steps, nat_tests)

narrow_above : (value n : ℕ) → n < 2 ^ 32 → high value ≡ 0
    → ltb (low value) n ≡ tree_answer (tests.Greater value) n
narrow_above value n lt fits = grind (arith, common_steps, nat_tests)

at_least_holds : (n value : ℕ) → test_holds AtLeast n value ≡ leb value n
at_least_holds n value = grind (arith, nat_tests)

narrow_at_least : (value n : ℕ) → n < 2 ^ 32 → high value ≡ 0
    → leb (low value) n ≡ tree_answer (tests.GreaterOrEqual value) n
narrow_at_least value n lt fits = grind (arith, common_steps, nat_tests)

-- it reaches no value that needs more
never_met : (test : NumberTest) (n : ℕ) → n < 2 ^ 32 → high (value_of test) ≢ 0 → false ≡ tree_answer test n
never_met test n h h2 = grind (arith, common_steps, nat_tests, ne_eqb)

-- ---- a number in two words

-- the number of a test has no bit outside its mask
abbrev IsWithin : NumberTest → Type 0
IsWithin (tests.Masked mask value) = bit_and value mask ≡ value
IsWithin test = Unit {0}

module _ (index : ℕ) (lt : index < 6) where
  abbrev word : ℕ
  word = argument_word index

  abbrev n : CallRecord → ℕ
  n call = argument call index

  order_tests : (test : Test) (value hit miss : ℕ)
      → IsPlainOperation (JumpIf test Constant) (jump_if test (low value) hit miss)
      → Tests (order_code test word value hit miss) hit miss 6 (Unit {0})
      (λ call. cond (eqb (high (n call)) (high value)) (test_holds test (low (n call)) (low value))
      (ltb (high value) (high (n call))))
  unfolding order_code
  order_tests test value hit miss plain =
      let last = word_code test word (low value) hit miss in
      let order = jump_if Above (high value) (2 + hit) (2 + miss) in
      let low_tests = word_tests word (λ call. low (n call)) test (low value) hit miss (omega arith)
      (λ call. argument_low call index) in
      record {
        len = omega arith;
        sound = λ asked behind _ h m s.
            let equal = jump_sound SameWord (high value) 1 0 (omega arith) (omega arith) (λ _. tt) in
            let above = jump_sound Above (high value) (2 + hit) (2 + miss) (omega arith) (omega arith) (λ _. tt) in
            let rest_sound = low_tests.sound asked behind (λ _. plain) h m s in
            (load_sound (word + 1) (omega arith) (omega arith), (equal, (above, rest_sound)));
        ends = λ call fits behind answer left a over under.
            more (loads (word + 1) a (omega arith) (argument_high call index)
            (jumps {most = 4 + left} SameWord (high value) 1 0 (high (n call))
            (λ x. more (low_tests.ends call fits behind answer left _ (λ z. over (rw (x, z) refl))
            (λ z. under (rw (x, z) refl))) (omega arith))
            (λ x. more (jumps {most = left} Above (high value) (2 + hit) (2 + miss) (high (n call))
            (λ y. past last behind hit _ (over (rw (x, y) refl) _))
            (λ y. past last behind miss _ (under (rw (x, y) refl) _))) (omega arith)))) (omega arith);
      }

  masked_tests : (mask wanted hit miss : ℕ) → bit_and wanted mask ≡ wanted
      → Tests (masked_code word mask wanted hit miss) hit miss 6 (IsSimpleMask (high mask) × IsSimpleMask (low mask))
      (λ call. cond (eqb (bit_and (high (n call)) (high mask)) (high wanted))
      (eqb (bit_and (low (n call)) (low mask)) (low wanted)) false)
  unfolding masked_code
  masked_tests mask wanted hit miss within =
      both
      (half_tests (word + 1) (λ call. high (n call)) (omega arith) (λ call. argument_high call index)
      (λ call fits. let below = fits.args index in omega arith) (high mask) (high wanted) 0
      (length (half_code word (low mask) (low wanted) hit miss) + miss) (sym (and_shr wanted mask 32) ∙ ap high within))
      (half_tests word (λ call. low (n call)) (omega arith) (λ call. argument_low call index)
      (λ call fits. omega arith) (low mask) (low wanted) hit miss (sym (and_mod wanted mask 32) ∙ ap low within))

  wide_tests : (test : NumberTest) (hit miss : ℕ) → IsWithin test
      → Tests (wide_code test word hit miss) hit miss 6 (IsPlainTest test) (λ call. tree_answer test (n call))
  wide_tests (tests.Masked mask value) hit miss within = masked_tests mask value hit miss within
  wide_tests (tests.Greater value) hit miss within = order_tests Above value hit miss tt
  wide_tests (tests.GreaterOrEqual value) hit miss within =
      tests_as 6 6 _ _ (order_tests AtLeast value hit miss tt) (omega arith) (λ p. p)
      (λ call fits. grind (arith, nat_tests))

  -- the number in the low word
  narrow_tests : (test : NumberTest) (hit miss : ℕ) → IsWithin test → high (value_of test) ≡ 0
      → Tests (narrow_code test word hit miss) hit miss 6 (IsPlainTest test) (λ call. tree_answer test (low (n call)))
  narrow_tests (tests.Masked mask value) hit miss within fits =
      tests_as 3 6 _ _ (half_tests word (λ call. low (n call)) (omega arith) (λ call. argument_low call index)
      (λ call h. omega arith) (low mask) (low value) hit miss (sym (and_mod value mask 32) ∙ ap low within))
      (omega arith) (λ p. p.1) (λ call h. narrow_masked mask value (low (n call)) (omega arith) fits)
  narrow_tests (tests.Greater value) hit miss within fits =
      tests_as 2 6 _ _ (word_tests word (λ call. low (n call)) Above (low value) hit miss (omega arith)
      (λ call. argument_low call index)) (omega arith) (λ p. tt)
      (λ call h. narrow_above value (low (n call)) (omega arith) fits)
  narrow_tests (tests.GreaterOrEqual value) hit miss within fits =
      tests_as 2 6 _ _ (word_tests word (λ call. low (n call)) AtLeast (low value) hit miss (omega arith)
      (λ call. argument_low call index)) (omega arith) (λ p. tt)
      (λ call h. at_least_holds (low (n call)) (low value) ∙ narrow_at_least value (low (n call)) (omega arith) fits)

  -- a test of an argument of so many bits
  test_tests : (bits : ArgumentBits) (test : NumberTest) (hit miss : ℕ) → IsWithin test
      → Tests (test_code bits test word hit miss) hit miss 6 (IsPlainTest test)
      (λ call. tree_answer test (taken_of bits (n call)))
  test_tests Bits64 test hit miss within = wide_tests test hit miss within
  test_tests Bits32 test hit miss within =
      elim (cases_eq (high (value_of test)) 0) [
        | inl fits ↦ rw (eq-eqb (high (value_of test)) 0 fits) (narrow_tests test hit miss within fits)
        | inr wide ↦ rw (ne_eqb (high (value_of test)) 0 wide)
            (tests_as 1 6 _ _ (skip_tests hit miss (eqb miss 0) refl) (omega arith) (λ p. tt)
            (λ call h. never_met test (low (n call)) (omega arith) wide))
      ]

-- ---- a condition

within_of : (c : Condition) → IsCondition c → IsWithin (test_of c).0
within_of c fine = grind (arith, common_steps, nat_tests, and_mask, and_assoc)

-- what is taken of a register fits one
taken_fits : (bits : ArgumentBits) (n : ℕ) → n < 2 ^ 64 → taken_of bits n < 2 ^ 64
taken_fits bits n h = grind (arith, common_steps, nat_tests)

condition_tests : (a : Architecture) (c : Condition) (out : ℕ) → IsCondition c
    → Tests (condition_code a c out) 0 out 6 (IsPlainCondition c)
    (λ call. condition_holds c (argument_in a call c.index))
condition_tests a c out fine =
    tests_as 6 6 _ _ (by_exits (test_of c).1) (omega arith) (plain_of c)
    (λ call fits. decides c (argument_in a call c.index)
    (taken_fits (row_of a).bits (argument call c.index) (fits.args c.index)))
  where
    by_exits : (expected : Bool)
        → Tests (test_code (row_of a).bits (test_of c).0 (argument_word c.index) (exits expected out).0
        (exits expected out).1) 0 out 6 (IsPlainTest (test_of c).0)
        (λ call. comes_to ((test_of c).0, expected) (argument_in a call c.index))
    by_exits true = test_tests c.index fine.index (row_of a).bits (test_of c).0 0 out (within_of c fine)
    by_exits false =
        opposite _ (test_tests c.index fine.index (row_of a).bits (test_of c).0 out 0 (within_of c fine)) (λ call. refl)

-- Conditions one after another pass one instruction more where one of them fails.
pub conditions_tests : (a : Architecture) (cs : List Condition) → AllByRecursion IsCondition cs
    → Tests (conditions_code a cs) 0 1 (6 * length cs) (AllByRecursion IsPlainCondition cs) (λ call. all_hold a call cs)
conditions_tests a [] fine = no_tests 1 _
conditions_tests a (c ∷ cs) fine =
    tests_as _ _ _ _
    (both (condition_tests a c (length (conditions_code a cs) + 1) fine.0) (conditions_tests a cs fine.1)) (omega arith)
    (λ p. p) (λ call h. grind (arith, nat_tests))
