-- A record and its sixteen words.
use Rattle.scf_insn.proofs.Common.{◌≡◌, ℕ, ◌+◌, ◌*◌, ◌<◌, ◌^◌, List, [], ◌∷◌, ◌++◌, length, zero, suc, lit<, refl, arith, slice_index, flat_map, AllByRecursion, CallRecord, seccomp_data_args, IsRecord, IsWords, low, high, halves, words_of, number_at, call_of}

low_joined : (a b : ℕ) → a < 2 ^ 32 → low (a + 2 ^ 32 * b) ≡ a
low_joined a b h = omega arith

high_joined : (a b : ℕ) → a < 2 ^ 32 → high (a + 2 ^ 32 * b) ≡ b
high_joined a b h = omega arith

joined : (n : ℕ) → low n + 2 ^ 32 * high n ≡ n
joined n = omega arith

-- the words of the record that has these words are these
pub words_of-call_of : (words : List ℕ) → IsWords words → words_of (call_of words) ≡ words
words_of-call_of (w0 ∷ w1 ∷ w2 ∷ w3 ∷ w4 ∷ w5 ∷ w6 ∷ w7 ∷ w8 ∷ w9 ∷ w10 ∷ w11 ∷ w12 ∷ w13 ∷ w14 ∷ w15 ∷ []) h =
    rw (
      low_joined w2 w3 h.each.1.1.0,
      high_joined w2 w3 h.each.1.1.0,
      low_joined w4 w5 h.each.1.1.1.1.0,
      high_joined
          w4 w5 h.each.1.1.1.1.0,
      low_joined w6 w7 h.each.1.1.1.1.1.1.0,
      high_joined w6 w7 h.each.1.1.1.1.1.1.0,
      low_joined
          w8 w9 h.each.1.1.1.1.1.1.1.1.0,
      high_joined w8 w9 h.each.1.1.1.1.1.1.1.1.0,
      low_joined w10 w11
          h.each.1.1.1.1.1.1.1.1.1.1.0,
      high_joined w10 w11 h.each.1.1.1.1.1.1.1.1.1.1.0,
      low_joined w12 w13
          h.each.1.1.1.1.1.1.1.1.1.1.1.1.0,
      high_joined w12 w13 h.each.1.1.1.1.1.1.1.1.1.1.1.1.0,
      low_joined w14 w15
          h.each.1.1.1.1.1.1.1.1.1.1.1.1.1.1.0,
      high_joined w14 w15 h.each.1.1.1.1.1.1.1.1.1.1.1.1.1.1.0,
    ) refl
words_of-call_of words h = absurd (let count = h.count in omega arith)

whole_call : (nr arch ip : ℕ) (args : List ℕ) → length args ≡ seccomp_data_args
    → let call : CallRecord = record { nr = nr; arch = arch; ip = ip; args = args } in call_of (words_of call) ≡ call
whole_call nr arch ip (a0 ∷ a1 ∷ a2 ∷ a3 ∷ a4 ∷ a5 ∷ []) six =
    rw (joined ip, joined a0, joined a1, joined a2, joined a3, joined a4, joined a5) refl
whole_call nr arch ip args six = absurd (omega arith)

-- the words of six arguments
pub halves_of_six : (args : List ℕ) → length args ≡ seccomp_data_args → flat_map halves args
    ≡ halves (slice_index args 0) ++ halves (slice_index args 1) ++ halves (slice_index args 2)
    ++ halves (slice_index args 3) ++ halves (slice_index args 4) ++ halves (slice_index args 5)
halves_of_six (a0 ∷ a1 ∷ a2 ∷ a3 ∷ a4 ∷ a5 ∷ []) six = refl
halves_of_six args six = absurd (omega arith)

-- the record that has the words of a record is that record
pub call_of-words_of : (call : CallRecord) → IsRecord call → call_of (words_of call) ≡ call
call_of-words_of call h = whole_call call.nr call.arch call.ip call.args h.count

each_half : (args : List ℕ) → AllByRecursion (λ n. n < 2 ^ 64) args
    → AllByRecursion (λ word. word < 2 ^ 32) (flat_map halves args)
each_half [] h = tt
each_half (n ∷ args) h = (omega arith, (omega arith, each_half args h.1))

length-halves : (args : List ℕ) → length (flat_map halves args) ≡ length args + length args
length-halves [] = refl
length-halves (n ∷ args) = let more = length-halves args in omega arith

each_from_indices : (bound : ℕ) (xs : List ℕ) → ((i : ℕ) → slice_index xs i < bound) → AllByRecursion (λ n. n < bound) xs
each_from_indices bound [] h = tt
each_from_indices bound (x ∷ xs) h = (h 0, each_from_indices bound xs (λ i. h (suc i)))

-- sixteen numbers, each below 2^32 at its index
pub words_by_index : (words : List ℕ) → length words ≡ 16 → ((i : ℕ) → slice_index words i < 2 ^ 32) → IsWords words
words_by_index words count below = record { count = count; each = each_from_indices (2 ^ 32) words below }

pub length-words_of : (call : CallRecord) → length call.args ≡ seccomp_data_args → length (words_of call) ≡ 16
length-words_of call six = let more = length-halves call.args in omega arith

-- the words of a record are sixteen numbers below 2^32
pub IsWords-words_of : (call : CallRecord) → IsRecord call → IsWords (words_of call)
IsWords-words_of call h = record {
  count = length-words_of call h.count;
  each = let ip = h.ip in
      (h.nr, (h.arch, (omega arith, (omega arith, each_half call.args (each_from_indices (2 ^ 64) call.args h.args)))));
}

index_below : (bound : ℕ) → 0 < bound → (xs : List ℕ) → AllByRecursion (λ n. n < bound) xs → (i : ℕ)
    → slice_index xs i < bound
index_below bound some [] h i = some
index_below bound some (x ∷ xs) h zero = h.0
index_below bound some (x ∷ xs) h (suc i) = index_below bound some xs h.1 i

-- each word of sixteen is below 2^32, and an index past them reads 0
pub word_below : (words : List ℕ) → IsWords words → (i : ℕ) → slice_index words i < 2 ^ 32
word_below words h = index_below (2 ^ 32) (lit< tt) words h.each

number_below : (words : List ℕ) → IsWords words → (i : ℕ) → number_at words i < 2 ^ 64
number_below words h i = let first = word_below words h i in let second = word_below words h (i + 1) in omega arith

-- the record of sixteen words has fields within their widths
pub IsRecord-call_of : (words : List ℕ) → IsWords words → IsRecord (call_of words)
IsRecord-call_of words h1 = grind (arith, number_below, index_below, word_below)
