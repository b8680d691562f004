-- A record's bytes, piece by piece.
use Rattle.std.proofs.lemmas.Grind.{common_steps}
use Rattle.scf_insn.proofs.Common.{◌≡◌, ℕ, ◌+◌, ◌*◌, ◌<◌, ◌≤◌, ◌^◌, ◌++◌, List, [], drop, take, length, get_or, ap, sym, ◌∙◌, append-nil, arith, length-drop, length-append, length-take, take-append-drop, drop-drop, drop_all, take_all, take_more, w32, to_le_bytes, flat_map, flat_map-append, take-put_mid, put_mid, low, high}

-- eight bytes are four and four
pub eight : (xs : List ℕ) → take 8 xs ≡ take 4 xs ++ take 4 (drop 4 xs)
eight xs = grind arith

-- a number's halves have the bytes that its words have
pub number_of_halves : (first second n : ℕ) (xs ys : List ℕ) → first < 2 ^ 32 → n ≡ first + 2 ^ 32 * second
    → to_le_bytes w32 first ≡ xs → to_le_bytes w32 second ≡ ys
    → to_le_bytes w32 (low n) ++ to_le_bytes w32 (high n) ≡ xs ++ ys
number_of_halves first second n xs ys h1 h2 h3 h4 = grind arith

-- the next piece of bytes
piece : (n at : ℕ) (xs front back : List ℕ) → front ≡ take n (drop at xs) → back ≡ drop (at + n) xs
    → front ++ back ≡ drop at xs
piece n at xs front back f b = ap (λ ys. ys ++ back) f
    ∙ ap (λ ys. take n (drop at xs) ++ ys) (b ∙ sym (drop-drop n at xs)) ∙ take-append-drop n (drop at xs)

-- 64 bytes from two pieces of four and seven of eight
pub spelled : (xs : List ℕ) → length xs ≡ 64 → (w0 w1 q0 q1 q2 q3 q4 q5 q6 : List ℕ) → w0 ≡ take 4 (drop 0 xs)
    → w1 ≡ take 4 (drop 4 xs) → q0 ≡ take 8 (drop 8 xs)
    → q1 ≡ take 8 (drop 16 xs) → q2 ≡ take 8 (drop 24 xs) → q3 ≡ take 8 (drop 32 xs) → q4 ≡ take 8 (drop 40 xs)
    → q5 ≡ take 8 (drop 48 xs) → q6 ≡ take 8 (drop 56 xs)
    → w0 ++ (w1 ++ (q0 ++ (q1 ++ (q2 ++ (q3 ++ (q4 ++ (q5 ++ (q6 ++ [])))))))) ≡ xs
spelled xs long w0 w1 q0 q1 q2 q3 q4 q5 q6 e0 e1 f0 f1 f2 f3 f4 f5 f6 =
    let none : [] ≡ drop 64 xs = sym (drop_all 64 xs (omega arith)) in
    piece 4 0 xs w0 _ e0
    (piece 4 4 xs w1 _ e1
    (piece 8 8 xs q0 _ f0
    (piece 8 16 xs q1 _ f1
    (piece 8 24 xs q2 _ f2
    (piece 8 32 xs q3 _ f3 (piece 8 40 xs q4 _ f4 (piece 8 48 xs q5 _ f5 (piece 8 56 xs q6 [] f6 none))))))))

length-put_mid : (a k : ℕ) (xs ys : List ℕ) → a + k ≤ length xs → length ys ≡ k → length (put_mid a k xs ys) ≡ length xs
length-put_mid a k xs ys inside e = simp (length-append, length-take, length-drop) (omega arith)

-- the next word is written
pub next_word : (bytes ys words : List ℕ) (i w k : ℕ) → length bytes ≡ 64 → i < 16 → length words ≡ 16
    → ys ≡ to_le_bytes w32 w → w ≡ get_or words i 0 → k ≡ 4
    → take (4 * i) bytes ≡ flat_map (to_le_bytes w32) (take i words)
    → (length (put_mid (4 * i) k bytes ys) ≡ 64)
    × (take (4 * (i + 1)) (put_mid (4 * i) k bytes ys) ≡ flat_map (to_le_bytes w32) (take (i + 1) words))
next_word bytes ys words i w k long inside all is_word is four before =
    grind (arith, common_steps, length-put_mid, take-put_mid, append-nil, flat_map-append, take_more)

-- all words are written
pub all_words : (bytes words : List ℕ) (i : ℕ) → length bytes ≡ 64 → length words ≡ 16 → i ≡ 16
    → take (4 * i) bytes ≡ flat_map (to_le_bytes w32) (take i words) → bytes ≡ flat_map (to_le_bytes w32) words
all_words bytes words i h1 h2 h3 h4 = grind (arith, take_all)
