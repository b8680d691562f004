-- The lines of a listing: their tokens, and that no byte or token of them ends a line, a statement or a label.
use Rattle.scf_text.proofs.Common.{◌≡◌, ℕ, ◌-◌, ◌/◌, ◌%◌, ◌<◌, ◌^◌, true, false, ◌&&◌, eqb, List, [], ◌∷◌, ◌++◌, length, map, min, Some, refl, arith, ◌≤◌, Bool, ltb, None, not, list_all, flat_map, AllByRecursion, is_digit, digit_value, decimal, digits, digit_glyph, digits_value, AllDigits, IsNumeral, eqb-true, ne_eqb, lt-ltb, agree_below_at, and_parts, and_right, ltb-true, digits_is_IsNumeral, digit_from_value, is_word_byte, begins_in_word, before_comment, field_number, number_of, numeral, has_hex_prefix, is_name, nat_tests, number_text, operands_text, piece_text, words_of_part, codes, cases_Bool, inl, inr, IsInsn, Insn, Piece, Field, Code, Jt, Jf, K, Style, Decimal, Hexadecimal, FourDigits, field_of, encodings, known_encodings, encoding_for, bytes_eq, is_semicolon, label_in, list_all-append}
use Rattle.scf_text.proofs.TokenLemmas.{words_nil, words_blank, words_mark, words_word, words_one, words_more, onto_word}
use Rattle.scf_text.specs.declared.encoding.Piece.TheVariants as p
use Rattle.scf_text.specs.Encodings.{Encoding}
use Rattle.scf_text.proofs.FormLemmas.{listed_form}
use Rattle.std.proofs.lemmas.Grind.{common_steps}

-- numbers

glyph_is : (d : ℕ) → d < 16 → digit_value (digit_glyph false d) ≡ d
glyph_is d lt = grind (arith, common_steps, nat_tests, eqb-true, agree_below_at)

all_digits : (radix : ℕ) (ds : List ℕ) → AllDigits radix ds → list_all (λ c. is_digit c radix) ds ≡ true
all_digits radix [] h = refl
all_digits radix (c ∷ cs) h = rw (lt-ltb (digit_value c) radix h.0, all_digits radix cs h.1) refl

numeral_is : (radix : ℕ) (ds : List ℕ) (n : ℕ) → IsNumeral radix ds × (digits_value radix ds ≡ n)
    → numeral radix ds ≡ Some n
numeral_is radix ds n h = rw (lt-ltb 0 (length ds) h.0.0, all_digits radix ds h.0.1, h.1) refl

field_is : (t : List ℕ) (n : ℕ) → n < 2 ^ 32 → number_of t ≡ Some n → field_number t ≡ Some n
unfolding field_number
field_is t n lt e = let same : min (2 ^ 64 - 1) n ≡ n = omega arith in rw (e, same) refl

pub hexadecimal_is : (n : ℕ) → n < 2 ^ 32 → field_number (48 ∷ 120 ∷ digits 16 false n) ≡ Some n
unfolding number_of
hexadecimal_is n lt =
    field_is (48 ∷ 120 ∷ digits 16 false n) n lt (grind (arith, common_steps, nat_tests, numeral_is, digits_is_IsNumeral))

no_prefix : (ds : List ℕ) → AllDigits 10 ds → has_hex_prefix ds ≡ false
no_prefix ds h = grind (arith, common_steps, nat_tests, and_right, digit_from_value, ne_eqb)

pub decimal_is : (n : ℕ) → n < 2 ^ 32 → field_number (decimal n) ≡ Some n
unfolding number_of
decimal_is n lt =
    field_is (decimal n) n lt (grind (arith, common_steps, digits_is_IsNumeral, false, no_prefix, numeral_is))

-- the last four hexadecimal digits
abbrev four_digits : ℕ → List ℕ
four_digits n = map (λ unit. digit_glyph false (n / unit % 16)) (4096 ∷ 256 ∷ 16 ∷ 1 ∷ [])

four_values : (n : ℕ) → AllDigits 16 (four_digits n)
    × (n < 2 ^ 16 → digits_value 16 (four_digits n) ≡ n)
four_values n = grind (arith, common_steps, nat_tests, glyph_is)

pub four_digits_is : (n : ℕ) → n < 2 ^ 16 → field_number (48 ∷ 120 ∷ four_digits n) ≡ Some n
unfolding number_of
four_digits_is n lt =
    field_is (48 ∷ 120 ∷ four_digits n) n (omega arith) (grind (arith, common_steps, nat_tests, four_values, numeral_is))

digits_no_name : (ds : List ℕ) → AllDigits 10 ds → is_name ds ≡ false
digits_no_name ds h = grind (arith, common_steps, nat_tests, digit_from_value)

pub decimal_no_name : (n : ℕ) → n < 2 ^ 32 → is_name (decimal n) ≡ false
decimal_no_name n lt =
    digits_no_name (decimal n) (digits_is_IsNumeral 10 false (omega arith) (omega arith) n (omega arith)).0.1

-- letters, digits and `_`, at least one
pub record IsWordy (t : List ℕ) : Type 0 where
  pub some : 0 < length t
  pub each : list_all is_word_byte t ≡ true

words_wordy : (t remaining : List ℕ) → IsWordy t → begins_in_word remaining ≡ false
    → words_of_part (t ++ remaining) ≡ t ∷ words_of_part remaining
words_wordy [] remaining w h = absurd (omega (arith, w.some))
words_wordy (b ∷ t) remaining w h = grind (arith, common_steps, nat_tests, and_parts, words_word)

-- digits

digit_word : (c : ℕ) → digit_value c < 16 → is_word_byte c ≡ true
digit_word c lt = grind (arith, nat_tests)

digits_word : (base : ℕ) (ds : List ℕ) → base ≤ 16 → AllDigits base ds → list_all is_word_byte ds ≡ true
digits_word base [] high h = refl
digits_word base (c ∷ cs) high h = grind (arith, common_steps, nat_tests, digit_word, digits_word base cs high h.1)

digits_wordy : (base n : ℕ) → 2 ≤ base → base ≤ 16 → n < base ^ 64 → IsWordy (digits base false n)
digits_wordy base n low high lt =
    let numeral = (digits_is_IsNumeral base false low high n lt).0 in
    record { some = numeral.0; each = digits_word base (digits base false n) high numeral.1 }

number_wordy : (style : Style) (n : ℕ) → n < 2 ^ 32 → IsWordy (number_text style n)
number_wordy Decimal n lt = digits_wordy 10 n (omega arith) (omega arith) (omega arith)
number_wordy Hexadecimal n lt =
    record { some = omega arith; each = (digits_wordy 16 n (omega arith) (omega arith) (omega arith)).each }
number_wordy FourDigits n lt =
    record { some = omega arith; each = digits_word 16 (four_digits n) (omega arith) (four_values n).0 }

pub field_small : (i : Insn) (f : Field) → IsInsn i → field_of i f < 2 ^ 32
field_small i f h = grind (arith, common_steps, nat_tests)

pub piece_wordy : (i : Insn) (f : Field) (style : Style) → IsInsn i → IsWordy (number_text style (field_of i f))
piece_wordy i f style fits = number_wordy style (field_of i f) (field_small i f fits)

-- pieces

abbrev pub piece_words : Insn → Piece → List (List ℕ)
piece_words i (p.Mark b) = (b ∷ []) ∷ []
piece_words i p.Len = codes "len" ∷ []
piece_words i p.Accumulator = codes "a" ∷ []
piece_words i p.Index = codes "x" ∷ []
piece_words i (p.Number f style) = number_text style (field_of i f) ∷ []
piece_words i (p.Target f) = decimal (field_of i f) ∷ []

words_number : (i : Insn) (f : Field) (style : Style) (remaining : List ℕ) → IsInsn i → begins_in_word remaining ≡ false
    → words_of_part (number_text style (field_of i f) ++ remaining) ≡ number_text style (field_of i f) ∷ words_of_part remaining
words_number i f style remaining h k = grind (arith, common_steps, nat_tests, words_wordy, field_of, piece_wordy)

pub each_same : {A B : Type 0} (f g : A → B) (xs : List A) → map f xs ≡ map g xs → AllByRecursion (λ x. f x ≡ g x) xs
each_same f g [] e = tt
each_same f g (x ∷ xs) e =
    let same : f x ∷ map f xs ≡ g x ∷ map g xs = e in
    (cc, each_same f g xs cc)

abbrev words_listed : Insn → Encoding → List (List ℕ)
words_listed i f = words_of_part (operands_text i f.pieces)

abbrev words_wanted : Insn → Encoding → List (List ℕ)
words_wanted i f = flat_map (piece_words i) f.pieces

all_words : (i : Insn) → IsInsn i → map (words_listed i) encodings ≡ map (words_wanted i) encodings
unfolding onto_word known_encodings
all_words i h =
    simp (
      words_number i Code FourDigits,
      words_number i K Hexadecimal,
      words_number i K Decimal,
      words_number i Jt Decimal,
      words_number i Jf Decimal,
      words_blank,
      words_mark,
      words_one,
      words_more,
      words_nil,
    )

operands_words : (i : Insn) → IsInsn i → words_listed i (encoding_for i) ≡ words_wanted i (encoding_for i)
operands_words i h =
    listed_form (λ f. words_listed i f ≡ words_wanted i f) i
    (each_same (words_listed i) (words_wanted i) encodings (all_words i h))

-- the mnemonic

abbrev is_wordy : List ℕ → Bool
is_wordy t = ltb 0 (length t) && list_all is_word_byte t

wordy_from : (t : List ℕ) → is_wordy t ≡ true → IsWordy t
wordy_from t h = grind (arith, common_steps, nat_tests, and_parts, ltb-true)

all_wordy : map (λ (f : Encoding). is_wordy f.mnemonic) encodings ≡ map (λ f. true) encodings
unfolding known_encodings
all_wordy = refl

-- the line of an instruction, without its end, and its tokens

abbrev pub name_of : Insn → List ℕ
name_of i = (encoding_for i).mnemonic

abbrev pub operands : Insn → List (List ℕ)
operands i = flat_map (piece_words i) (encoding_for i).pieces

abbrev pub body : Insn → List ℕ
body i = name_of i ++ operands_text i (encoding_for i).pieces

pub mnemonic_wordy : (i : Insn) → IsWordy (name_of i)
mnemonic_wordy i =
    wordy_from (name_of i)
    (listed_form (λ f. is_wordy f.mnemonic ≡ true) i
    (each_same (λ (f : Encoding). is_wordy f.mnemonic) (λ f. true) encodings all_wordy))

operands_apart : (i : Insn) (ps : List Piece) → begins_in_word (operands_text i ps) ≡ false
operands_apart i ps = grind (arith, common_steps, nat_tests)

pub line_words : (i : Insn) → IsInsn i → words_of_part (body i) ≡ name_of i ∷ operands i
line_words i fits = grind (arith, common_steps, nat_tests, words_wordy, mnemonic_wordy, operands_apart, operands_words)

-- a byte that neither ends a line nor begins a comment
abbrev pub is_line_byte : ℕ → Bool
is_line_byte b = ltb b 128 && (not (eqb b 47) && not (eqb b 10))

-- a token that ends neither a statement nor a label
abbrev pub is_plain : List ℕ → Bool
is_plain t = not (bytes_eq t (59 ∷ [])) && not (bytes_eq t (58 ∷ []))

words_line : (t : List ℕ) → list_all is_word_byte t ≡ true → list_all is_line_byte t ≡ true
words_line [] h = refl
words_line (b ∷ t) h = grind (arith, common_steps, nat_tests, and_parts, words_line t)

pub wordy_plain : (t : List ℕ) → IsWordy t → is_plain t ≡ true
wordy_plain [] w = absurd (omega (arith, w.some))
wordy_plain (b ∷ t) w = grind (arith, common_steps, nat_tests, and_parts)

number_line : (i : Insn) (f : Field) (style : Style) → IsInsn i
    → (list_all is_line_byte (number_text style (field_of i f)) ≡ true)
    × (is_plain (number_text style (field_of i f)) ≡ true)
number_line i f style fits = let w = piece_wordy i f style fits in
    (words_line (number_text style (field_of i f)) w.each, wordy_plain (number_text style (field_of i f)) w)

-- a mark that ends no line, statement or label and begins no comment
abbrev is_apart : Piece → Bool
is_apart (p.Mark b) = is_line_byte b && is_plain (b ∷ [])
is_apart q = true

piece_listed : (i : Insn) (q : Piece) → IsInsn i → is_apart q ≡ true
    → (list_all is_line_byte (piece_text i q) ≡ true) × (list_all is_plain (piece_words i q) ≡ true)
piece_listed i (p.Mark b) fits h =
    let both = and_parts (is_line_byte b) (is_plain (b ∷ [])) h in (
      elim (cases_Bool (eqb b 44)) [
        | inl comma ↦ rw comma refl
        | inr differs ↦ rw (differs, both.0) refl
      ],
      rw both.1 refl,
    )
piece_listed i (p.Number f style) fits h = let line = number_line i f style fits in (line.0, rw line.1 refl)
piece_listed i (p.Target f) fits h = let line = number_line i f Decimal fits in (line.0, rw line.1 refl)
piece_listed i q fits h = (refl, refl)

pieces_listed : (i : Insn) (ps : List Piece) → IsInsn i → list_all is_apart ps ≡ true
    → (list_all is_line_byte (flat_map (piece_text i) ps) ≡ true)
    × (list_all is_plain (flat_map (piece_words i) ps) ≡ true)
pieces_listed i [] fits h = (refl, refl)
pieces_listed i (q ∷ ps) fits h =
    let both = and_parts (is_apart q) (list_all is_apart ps) h in
    let first = piece_listed i q fits both.0 in
    let tail = pieces_listed i ps fits both.1 in (
      rw (list_all-append is_line_byte (piece_text i q) (flat_map (piece_text i) ps), first.0, tail.0) refl,
      rw (list_all-append is_plain (piece_words i q) (flat_map (piece_words i) ps), first.1, tail.1) refl,
    )

all_apart : map (λ (f : Encoding). list_all is_apart f.pieces) encodings ≡ map (λ f. true) encodings
unfolding known_encodings
all_apart = refl

apart : (i : Insn) → list_all is_apart (encoding_for i).pieces ≡ true
apart i =
    listed_form (λ f. list_all is_apart f.pieces ≡ true) i
    (each_same (λ (f : Encoding). list_all is_apart f.pieces) (λ f. true) encodings all_apart)

operands_line : (i : Insn) (ps : List Piece) → list_all is_line_byte (flat_map (piece_text i) ps) ≡ true
    → list_all is_line_byte (operands_text i ps) ≡ true
operands_line i ps h = grind (arith, common_steps, nat_tests)

pub body_line : (i : Insn) → IsInsn i → list_all is_line_byte (body i) ≡ true
body_line i fits =
    rw (
      list_all-append is_line_byte (name_of i) (operands_text i (encoding_for i).pieces),
      words_line (name_of i) (mnemonic_wordy i).each,
      operands_line i (encoding_for i).pieces (pieces_listed i (encoding_for i).pieces fits (apart i)).0,
    ) refl

each_byte : (P : ℕ → Type 0) → ((b : ℕ) → is_line_byte b ≡ true → P b) → (t : List ℕ) → list_all is_line_byte t ≡ true
    → AllByRecursion P t
each_byte P f [] h = tt
each_byte P f (b ∷ t) h = let a = and_parts (is_line_byte b) (list_all is_line_byte t) h in
    (f b a.0, each_byte P f t a.1)

pub no_comment : (t : List ℕ) → list_all is_line_byte t ≡ true → before_comment t ≡ t
no_comment [] h = refl
no_comment (b ∷ t) h = grind (arith, common_steps, nat_tests, and_parts, no_comment t)

pub no_end : (t : List ℕ) → list_all is_line_byte t ≡ true → AllByRecursion (λ b. eqb b 10 ≡ false) t
no_end t h = each_byte (λ b. eqb b 10 ≡ false) (λ b byte. grind (arith, nat_tests)) t h

pub small_bytes : (t : List ℕ) → list_all is_line_byte t ≡ true → AllByRecursion (λ b. b < 128) t
small_bytes t h = each_byte (λ b. b < 128) (λ b byte. grind (arith, nat_tests)) t h

pub no_semicolon : (ts : List (List ℕ)) → list_all is_plain ts ≡ true → AllByRecursion (λ t. is_semicolon t ≡ false) ts
no_semicolon [] h = tt
no_semicolon (t ∷ ts) h = grind (arith, common_steps, nat_tests, and_parts, no_semicolon ts)

pub no_label : (t : List ℕ) (ts : List (List ℕ)) → list_all is_plain ts ≡ true → label_in (t ∷ ts) ≡ None
no_label t ts h = grind (arith, common_steps, nat_tests, and_parts, and_right)

pub operands_plain : (i : Insn) → IsInsn i → list_all is_plain (operands i) ≡ true
operands_plain i fits = (pieces_listed i (encoding_for i).pieces fits (apart i)).1
