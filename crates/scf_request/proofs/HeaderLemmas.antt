-- A header ends at the first line end, so bytes begin with at most one.
use Rattle.scf_request.proofs.Common.{nat_tests, ◌≡◌, ◌≢◌, ℕ, zero, suc, ◌+◌, ◌<◌, ◌≤◌, ◌^◌, true, List, [], ◌∷◌, ◌++◌, not, eqb, length, get_or, take, drop, codes, Some, Err, refl, sym, ap, ◌∙◌, append_assoc, arith, length-append, list_all, list_all-append, is_digit, digits_value, AllDigits, and_from, and_parts, ltb-true, ne_eqb, cond_some, append_cancel_left, drop_more, take-append-drop, take_more, digits_value-lt, pow-le-pow_right, numeral, ReadsNumber, NumeralFault, PartKind, kind_word, IsHeader, HasHeader}
use Rattle.std.proofs.Math.Seq.{get_or-append_seam}

-- ---- the digits of a header

-- one to eight decimal digits that write a count
abbrev pub IsCount : List ℕ → ℕ → Type 0
IsCount digits count = (length digits ≤ 8) × (numeral 10 digits ≡ Some count)

all_digits : (ds : List ℕ) → list_all (λ d. is_digit d 10) ds ≡ true → AllDigits 10 ds
all_digits [] h = tt
all_digits (d ∷ ds) h = grind (arith, and_parts, ltb-true, all_digits ds)

-- a numeral has digits alone, and their value
numeral_parts : (ds : List ℕ) (n : ℕ) → numeral 10 ds ≡ Some n
    → (list_all (λ d. is_digit d 10) ds ≡ true) × (digits_value 10 ds ≡ n)
numeral_parts ds n h = grind (arith, and_parts, cond_some)

pub count_is_small : (ds : List ℕ) (n : ℕ) → IsCount ds n → n < 2 ^ 64
count_is_small ds n h = grind (arith, all_digits, digits_value-lt, numeral_parts, pow-le-pow_right)

-- ---- lines

-- no byte is this one
abbrev pub HasNo : ℕ → List ℕ → Type 0
HasNo end bs = list_all (λ b. not (eqb b end)) bs ≡ true

-- no byte is a line end
abbrev pub IsLine : List ℕ → Type 0
IsLine bs = HasNo 10 bs

pub line_join : (xs ys : List ℕ) → IsLine xs → IsLine ys → IsLine (xs ++ ys)
line_join xs ys h k = list_all-append (λ b. not (eqb b 10)) xs ys ∙ and_from _ _ h k

digits_are_line : (ds : List ℕ) → list_all (λ d. is_digit d 10) ds ≡ true → IsLine ds
digits_are_line [] h = refl
digits_are_line (d ∷ ds) h = grind (arith, nat_tests, and_parts, and_from, digits_are_line ds)

-- a kind's word has no line end and no blank
word_has_no : (kind : PartKind) → IsLine (kind_word kind) × HasNo 32 (kind_word kind)
word_has_no kind = grind arith

header_is_line : (kind : PartKind) (digits : List ℕ) (n : ℕ) → IsCount digits n
    → IsLine (kind_word kind ++ (codes " " ++ digits))
header_is_line kind digits n h = grind (arith, digits_are_line, line_join, numeral_parts, word_has_no)

-- bytes begin with at most one list that ends before this byte
pub same_before : (end : ℕ) (a b r s : List ℕ) → HasNo end a → HasNo end b → a ++ end ∷ r ≡ b ++ end ∷ s → a ≡ b
same_before end [] [] r s h k e = refl
same_before end [] (y ∷ b) r s h k e = grind (arith, nat_tests, and_parts)
same_before end (x ∷ a) [] r s h k e = grind (arith, nat_tests, and_parts)
same_before end (x ∷ a) (y ∷ b) r s h k e = grind (arith, nat_tests, and_parts, same_before end a b r s)

-- the bytes in front of the first of a byte
pub none_before : (end : ℕ) (bs : List ℕ) (n : ℕ) → n ≤ length bs → ((k : ℕ) → k < n → get_or bs k 0 ≢ end)
    → HasNo end (take n bs)
none_before end bs zero le h = refl
none_before end [] (suc n) le h = refl
none_before end (b ∷ bs) (suc n) le h =
    rw (ne_eqb b end (h 0 (omega arith))) (none_before end bs n (omega arith) (λ k lt. h (suc k) (omega arith)))

-- bytes around one of them
around : (end : ℕ) (bs : List ℕ) (n : ℕ) → n < length bs → get_or bs n 0 ≡ end
    → bs ≡ take n bs ++ end ∷ drop (n + 1) bs
around end bs n inside here =
    sym (take-append-drop n bs) ∙ ap (λ (xs : List ℕ). take n bs ++ xs)
    (drop_more bs n 0 inside ∙ ap (λ (b : ℕ). b ∷ drop (n + 1) bs) here)

-- what ends before the first of a byte
first_part : (end : ℕ) (bs before behind : List ℕ) (n : ℕ) → bs ≡ before ++ end ∷ behind → HasNo end before
    → n < length bs → get_or bs n 0 ≡ end → ((k : ℕ) → k < n → get_or bs k 0 ≢ end)
    → (take n bs ≡ before) × (drop (n + 1) bs ≡ behind)
first_part end bs before behind n whole none inside here first =
    let whole_here = around end bs n inside here in
    let same : take n bs ≡ before = same_before end (take n bs) before (drop (n + 1) bs) behind
    (none_before end bs n (omega arith) first) none (sym whole_here ∙ whole) in
    let rest : end ∷ drop (n + 1) bs ≡ end ∷ behind =
    append_cancel_left before (end ∷ drop (n + 1) bs) (end ∷ behind)
    (ap (λ (xs : List ℕ). xs ++ end ∷ drop (n + 1) bs) (sym same) ∙ sym whole_here ∙ whole) in
    (same, cc)

-- a byte that stands between others is found
pub is_found : (end : ℕ) (bs before behind : List ℕ) → bs ≡ before ++ end ∷ behind
    → ((k : ℕ) → k < length bs → get_or bs k 0 ≢ end) → ⊥
is_found end bs before behind whole none =
    let long : length before < length bs =
    omega (arith, ap (λ (xs : List ℕ). length xs) whole, length-append before (end ∷ behind)) in
    let here : get_or bs (length before) 0 ≡ end =
    ap (λ (xs : List ℕ). get_or xs (length before) 0) whole ∙ get_or-append_seam before end behind 0 in
    none (length before) long here

-- ---- headers

same_word : (k l : PartKind) (a b : List ℕ) → kind_word k ++ (codes " " ++ a) ≡ kind_word l ++ (codes " " ++ b)
    → (kind_word k ≡ kind_word l) × (a ≡ b)
same_word k l a b h =
    let word : kind_word k ≡ kind_word l =
    same_before 32 (kind_word k) (kind_word l) a b (word_has_no k).1 (word_has_no l).1 h in
    let behind : codes " " ++ a ≡ codes " " ++ b =
    append_cancel_left (kind_word l) (codes " " ++ a) (codes " " ++ b)
    (ap (λ (w : List ℕ). w ++ (codes " " ++ a)) (sym word) ∙ h) in
    (word, append_cancel_left (codes " ") a b behind)

-- What two headers in front of the same bytes have in common: everything, but for kinds with the same word.
pub record SameHeader (h g : List ℕ) (k l : PartKind) (m n : ℕ) (r s : List ℕ) : Type 0 where
  pub header : h ≡ g
  pub word : kind_word k ≡ kind_word l
  pub count : m ≡ n
  pub behind : r ≡ s

pub same_header : (h g : List ℕ) (k l : PartKind) (m n : ℕ) (r s : List ℕ) → IsHeader h k m → IsHeader g l n
    → h ++ r ≡ g ++ s → SameHeader h g k l m n r s
same_header h g k l m n r s a b e =
    let first = header_is_line k a.digits m a.is_count in
    let second = header_is_line l b.digits n b.is_count in
    let left : h ++ r ≡ (kind_word k ++ (codes " " ++ a.digits)) ++ 10 ∷ r =
    rw a.text (append_assoc (kind_word k ++ (codes " " ++ a.digits)) (codes "\n") r) in
    let right : g ++ s ≡ (kind_word l ++ (codes " " ++ b.digits)) ++ 10 ∷ s =
    rw b.text (append_assoc (kind_word l ++ (codes " " ++ b.digits)) (codes "\n") s) in
    let line : kind_word k ++ (codes " " ++ a.digits) ≡ kind_word l ++ (codes " " ++ b.digits) =
    same_before 10 _ _ r s first second (sym left ∙ e ∙ right) in
    let parts = same_word k l a.digits b.digits line in
    let header : h ≡ g = a.text ∙ ap (λ (xs : List ℕ). xs ++ codes "\n") line ∙ sym b.text in
    let numbers : numeral 10 a.digits ≡ numeral 10 b.digits = ap (λ (ds : List ℕ). numeral 10 ds) parts.1 in
    record {
      header = header;
      word = parts.0;
      count = let some : Some m ≡ Some n = sym a.is_count.1 ∙ numbers ∙ b.is_count.1 in cc;
      behind = append_cancel_left h r s (e ∙ ap (λ (xs : List ℕ). xs ++ s) (sym header));
    }

-- a header has its line end
pub header_some : (h : List ℕ) (k : PartKind) (n : ℕ) → IsHeader h k n → 0 < length h
header_some h k n a = rw (a.text, length-append) (omega arith)

-- a header in front, up to its line end
line_of : (bs : List ℕ) (k : PartKind) (n : ℕ) (front : HasHeader bs k n)
    → bs ≡ (kind_word k ++ (codes " " ++ front.is_header.digits)) ++ 10 ∷ front.content
line_of bs k n front =
    let line = kind_word k ++ (codes " " ++ front.is_header.digits) in
    front.whole ∙ ap (λ (xs : List ℕ). xs ++ front.content) front.is_header.text
    ∙ append_assoc line (codes "\n") front.content

-- it is the first line, which is its word, a blank and its digits
pub first_line : (bs : List ℕ) (k : PartKind) (n end : ℕ) → end < length bs → get_or bs end 0 ≡ 10
    → ((i : ℕ) → i < end → get_or bs i 0 ≢ 10) → HasHeader bs k n
    → (digits : List ℕ) × IsCount digits n × (take end bs ≡ kind_word k ++ 32 ∷ digits)
first_line bs k n end inside here first front =
    let a = front.is_header in
    let line = first_part 10 bs (kind_word k ++ (codes " " ++ a.digits)) front.content end (line_of bs k n front)
    (header_is_line k a.digits n a.is_count) inside here first in
    (a.digits, a.is_count, line.0)

pub no_blank : (line : List ℕ) (k : PartKind) (n : ℕ) → ((i : ℕ) → i < length line → get_or line i 0 ≢ 32)
    → ((digits : List ℕ) × IsCount digits n × (line ≡ kind_word k ++ 32 ∷ digits)) → ⊥
no_blank line k n none (digits, is_count, whole) = is_found 32 line (kind_word k) digits whole none

pub at_blank : (line : List ℕ) (k : PartKind) (n blank : ℕ) → blank < length line → get_or line blank 0 ≡ 32
    → ((i : ℕ) → i < blank → get_or line i 0 ≢ 32)
    → ((digits : List ℕ) × IsCount digits n × (line ≡ kind_word k ++ 32 ∷ digits))
    → (take blank line ≡ kind_word k) × IsCount (drop (blank + 1) line) n
at_blank line k n blank inside here first (digits, is_count, whole) =
    let parts = first_part 32 line (kind_word k) digits blank whole (word_has_no k).1 inside here first in
    (parts.0, rw parts.1 is_count)

-- a line that is a word, a blank and digits is a header
pub header_in_front : (bs : List ℕ) (k : PartKind) (n end blank : ℕ) → end < length bs → get_or bs end 0 ≡ 10
    → blank < length (take end bs) → get_or (take end bs) blank 0 ≡ 32 → take blank (take end bs) ≡ kind_word k
    → IsCount (drop (blank + 1) (take end bs)) n → IsHeader (take (end + 1) bs) k n
header_in_front bs k n end blank inside here inside_line here_line word is_count =
    let line = take end bs in
    let parts : line ≡ kind_word k ++ 32 ∷ drop (blank + 1) line =
    around 32 line blank inside_line here_line ∙ ap (λ (xs : List ℕ). xs ++ 32 ∷ drop (blank + 1) line) word in
    record {
      digits = drop (blank + 1) line;
      is_count = is_count;
      text = take_more bs end 0 inside ∙ ap (λ (b : ℕ). line ++ b ∷ []) here
          ∙ ap (λ (xs : List ℕ). xs ++ codes "\n") parts;
    }

pub no_count : (ds : List ℕ) (n : ℕ) (e : NumeralFault) → ReadsNumber (numeral 10 ds) (Err e) → IsCount ds n → ⊥
no_count ds n e h1 h2 = grind (arith, count_is_small)
