-- Each form is read as it is listed, and the canonical text of instructions spells them.
use Rattle.scf_text.proofs.Common.{words_of_part, IsDistinct, Labels, index_of, subst, sym, ◌≡◌, ℕ, true, false, eqb, Option, None, Some, refl, ◌+◌, ◌<◌, ◌≤◌, List, [], ◌∷◌, ◌++◌, length, map, ap, ◌∙◌, append_assoc, arith, if◌then◌else◌, list_any, flat_map, AllByRecursion, list_all, slice_split, and_from, nat_tests, IsInsn, Insn, Code, Jt, Jf, K, names, tells_all, encoding_for, encodings, known_encodings, Number, ParsedInsn, parsed_of, SymbolTable, Statement, is_semicolon, words_of_line, statements_from, label_in, instruction_in, labels_from, parsed_insns_in, SaysInsn, SaysEach, Spells, All-from_recursion, slice_split_at, slice_split_none, bpf_maxinsns, Lexeme, lines_of, before_comment, lexemes_from, line_of, text_of}
use Rattle.scf_text.proofs.TokenLemmas.{words_nil, all_append}
use Rattle.scf_text.proofs.ListingLemmas.{hexadecimal_is, decimal_is, decimal_no_name, four_digits_is, piece_words}
use Rattle.scf_text.proofs.ListingLemmas.{each_same, name_of, field_small, mnemonic_wordy, line_words, is_plain, wordy_plain}
use Rattle.scf_text.proofs.ListingLemmas.{operands_plain, body, operands, body_line, no_comment, no_end, small_bytes}
use Rattle.scf_text.proofs.ListingLemmas.{no_semicolon, no_label}
use Rattle.scf_text.proofs.FormLemmas.{listed_one, listed_form}
use Rattle.scf_text.specs.Encodings.{Encoding}
use Rattle.std.proofs.lemmas.Grind.{common_steps}

-- what the listing of an instruction in this form says
abbrev pub draft_in : Encoding → Insn → ParsedInsn
draft_in f i = record {
  code = if list_any (names Code) f.pieces then i.code else f.code;
  jt = Number (if list_any (names Jt) f.pieces then i.jt else 0);
  jf = Number (if list_any (names Jf) f.pieces then i.jf else 0);
  k = Number (if list_any (names K) f.pieces then i.k else 0);
}

-- what the tokens of an instruction's listing in this form are read as
abbrev read_back : Insn → Encoding → Option ParsedInsn
read_back i f = parsed_of f.mnemonic (flat_map (piece_words i) f.pieces)

all_back : (i : Insn) → IsInsn i → map (read_back i) encodings ≡ map (λ f. Some (draft_in f i)) encodings
unfolding parsed_of known_encodings
all_back i h = grind (arith, common_steps, nat_tests, field_small, hexadecimal_is, decimal_is, decimal_no_name, four_digits_is)

abbrev pub IsReadBack : Insn → Encoding → Type 0
IsReadBack i f = read_back i f ≡ Some (draft_in f i)

pub reads_back : (i : Insn) → IsInsn i → IsReadBack i (encoding_for i)
reads_back i h =
    listed_form (IsReadBack i) i (each_same (read_back i) (λ f. Some (draft_in f i)) encodings (all_back i h))

tells_says : (symbols : SymbolTable) (at : ℕ) (i : Insn) (f : Encoding) → tells_all i f ≡ true
    → SaysInsn symbols at (draft_in f i) i
tells_says symbols at i f h = grind (arith, common_steps, nat_tests)

says_back : (symbols : SymbolTable) (at : ℕ) (i : Insn) → SaysInsn symbols at (draft_in (encoding_for i) i) i
says_back symbols at i =
    listed_one (λ f. f ≡ f) (λ f. SaysInsn symbols at (draft_in f i) i) i
    (each_same (λ (f : Encoding). f) (λ f. f) encodings refl) (λ f _ all. tells_says symbols at i f all)
    (record { code = refl; jt = refl; jf = refl; k = refl })

line_tokens : (i : Insn) → IsInsn i → slice_split is_semicolon (words_of_line (body i)) ≡ (name_of i ∷ operands i) ∷ []
line_tokens i fits =
    let words : map (λ (l : Lexeme). l.text) (lexemes_from 0 (before_comment (body i))) ≡ name_of i ∷ operands i =
    ap words_of_part (no_comment (body i) (body_line i fits))
    ∙ line_words i fits in
    let plain =
    and_from (is_plain (name_of i)) (list_all is_plain (operands i))
    (wordy_plain (name_of i) (mnemonic_wordy i)) (operands_plain i fits) in
    ap (slice_split is_semicolon) words
    ∙ slice_split_none is_semicolon (name_of i ∷ operands i)
    (All-from_recursion (λ t. is_semicolon t ≡ false) (name_of i ∷ operands i)
    (no_semicolon (name_of i ∷ operands i) plain))

-- the statements of a listing: one a line, and nothing behind the last end
abbrev listing : ℕ → List Insn → List Statement
listing n [] = record { line = n; tokens = [] } ∷ []
listing n (i ∷ is) = record { line = n; tokens = name_of i ∷ operands i } ∷ listing (n + 1) is

line_ended : (i : Insn) (remaining : List ℕ) → line_of i ++ remaining ≡ body i ++ 10 ∷ remaining
line_ended i remaining = grind (arith, common_steps, nat_tests, append_assoc)

lines_are : (i : Insn) (remaining : List ℕ) → IsInsn i → lines_of (line_of i ++ remaining) ≡ body i ∷ lines_of remaining
lines_are i remaining fits = ap lines_of (line_ended i remaining)
    ∙ slice_split_at (λ b. eqb b 10) (body i) 10 remaining
    (All-from_recursion (λ b. eqb b 10 ≡ false) (body i) (no_end (body i) (body_line i fits))) refl

statements_are : (n : ℕ) (is : List Insn) → AllByRecursion IsInsn is
    → statements_from n (lines_of (text_of is)) ≡ listing n is
statements_are n [] fits = rw words_nil refl
statements_are n (i ∷ is) fits = grind (arith, common_steps, nat_tests, lines_are, line_tokens, statements_are (n + 1) is fits.1)

unlabeled : (i : Insn) → IsInsn i → label_in (name_of i ∷ operands i) ≡ None
unlabeled i fits = no_label (name_of i) (operands i) (operands_plain i fits)

-- no statement has a label, and each says its instruction
listed : (symbols : SymbolTable) (at n : ℕ) (is : List Insn) → AllByRecursion IsInsn is → (labels_from at (listing n is) ≡ [])
    × AllByRecursion (λ (s : Statement). parsed_insns_in s ≡ [] → instruction_in s.tokens ≡ []) (listing n is)
    × SaysEach symbols at (flat_map parsed_insns_in (listing n is)) is
listed symbols at n [] fits = (refl, (λ none. refl, tt), tt)
listed symbols at n (i ∷ is) fits =
    let remaining = listed symbols (at + 1) (n + 1) is fits.1 in
    rw (unlabeled i fits.0, reads_back i fits.0) (remaining.0, (λ none. absurd cc, remaining.1), (says_back symbols at i, remaining.2))

ascii : (is : List Insn) → AllByRecursion IsInsn is → AllByRecursion (λ b. b < 128) (text_of is)
ascii [] fits = tt
ascii (i ∷ is) fits = grind (arith, common_steps, nat_tests, line_ended, all_append, small_bytes, body_line, ascii is fits.1)

pub round_trip : (is : List Insn) → AllByRecursion IsInsn is → length is ≤ bpf_maxinsns → Spells (text_of is) is
unfolding IsDistinct
round_trip is fits few =
    let statements = statements_are 1 is fits in
    let round = listed (index_of []) 0 1 is fits in
    record {
      ascii = ascii is fits;
      distinct = rw (statements, round.0) tt;
      few = few;
      fields = fits;
      read = rw statements round.1;
      each = rw statements
          (subst (λ (ls : Labels). SaysEach (index_of ls) 0 (flat_map parsed_insns_in (listing 1 is)) is) (sym round.0) round.2);
    }
