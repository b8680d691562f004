-- The tokens of a text: reading them from the front, their slices, and the parts of a line between them.
use Rattle.scf_text.proofs.Common.{◌≡◌, ℕ, zero, suc, ◌+◌, ◌-◌, ◌<◌, ◌≤◌, Bool, true, false, ◌&&◌, eqb, List, [], ◌∷◌, ◌++◌, length, get_or, take, drop, refl, sym, ap, subst, ◌∙◌, append_assoc, append-nil, arith, inl, inr, max, map, not, prefix_len, list_all, All, AllByRecursion, take_while, flat_map, join_with_byte, cases_Bool, cases_lt, and_left, and_right, and_parts, nat_tests, drop_more, drop_all, take_all, filter, length-filter, is_line_end, take_more, take_rest, drop-drop, map-append, drop-take, take-take, length-take-le, length-drop, take-append_seam, take-append-drop, drop-append-add, prefix_len_stops, prefix_len-le-length, slice_split_first, length-slice_split, join_with_byte-slice_split, is_semicolon, Token, is_blank, is_word_byte, count_ends, is_name, Lexeme, begins_comment, before_comment, begins_in_word, joined, lexemes_from, lexemes, IsSliceOf, lines_of, lexemes_of_lines, tokens_of, words_of_line, words_of_part, words_in, others_in, statements_in, first_statement, All-from_recursion}
use Rattle.std.proofs.lemmas.Grind.{common_steps}

pub word_not_blank : (b : ℕ) → is_word_byte b ≡ true → is_blank b ≡ false
word_not_blank b h = grind (arith, nat_tests)

pub nothing_left : (at : ℕ) → lexemes_from at [] ≡ []
unfolding lexemes_from
nothing_left at = refl

pub blank_in_front : (at b : ℕ) (bs : List ℕ) → is_blank b ≡ true → lexemes_from at (b ∷ bs) ≡ lexemes_from (at + 1) bs
unfolding lexemes_from
blank_in_front at b bs h = rw h refl

pub one_in_front : (at b : ℕ) (bs : List ℕ) → is_blank b ≡ false → (is_word_byte b && begins_in_word bs) ≡ false
    → lexemes_from at (b ∷ bs) ≡ (record { start = at; text = b ∷ [] }) ∷ lexemes_from (at + 1) bs
unfolding lexemes_from
one_in_front at b bs h k = rw (h, k) refl

pub more_in_front : (at b : ℕ) (bs : List ℕ) → is_word_byte b ≡ true → begins_in_word bs ≡ true
    → lexemes_from at (b ∷ bs) ≡ joined at b (lexemes_from (at + 1) bs)
unfolding lexemes_from
more_in_front at b bs h k = rw (word_not_blank b h, h, k) refl

pub prefix_more : (p : ℕ → Bool) (b : ℕ) (bs : List ℕ) → p b ≡ true → prefix_len p (b ∷ bs) ≡ suc (prefix_len p bs)
prefix_more p b bs h = rw h (omega arith)

-- a word in front is one token, up to its end
pub word_in_front : (at b : ℕ) (bs : List ℕ) → is_word_byte b ≡ true
    → lexemes_from at
    (b ∷ bs) ≡ (record { start = at; text = b ∷ take (prefix_len is_word_byte bs) bs }) ∷ lexemes_from
    (at + suc (prefix_len is_word_byte bs)) (drop (prefix_len is_word_byte bs) bs)
word_in_front at b [] h = one_in_front at b [] (word_not_blank b h) (and_right (is_word_byte b) false refl)
word_in_front at b (c ∷ cs) h =
    elim (cases_Bool (is_word_byte c)) [
      | inl word ↦
          let step : (at + 1) + suc (prefix_len is_word_byte cs) ≡ at + suc (suc (prefix_len is_word_byte cs)) =
          omega arith in
          more_in_front at b (c ∷ cs) h word ∙ ap (joined at b) (word_in_front (at + 1) c cs word)
          ∙ rw (prefix_more is_word_byte c cs word, step) refl
      | inr differs ↦ one_in_front at b (c ∷ cs) (word_not_blank b h)
          (and_right (is_word_byte b) (is_word_byte c) differs) ∙ rw differs refl
    ]

token_in_front : (at n b : ℕ) (bs : List ℕ) → is_blank b ≡ false → n ≡ max (prefix_len is_word_byte (b ∷ bs)) 1
    → lexemes_from at (b ∷ bs) ≡ (record { start = at; text = take n (b ∷ bs) })
    ∷ lexemes_from (at + n) (drop n (b ∷ bs))
token_in_front at n b bs h e =
    elim (cases_Bool (is_word_byte b)) [
      | inl word ↦
          let m : n ≡ suc (prefix_len is_word_byte bs) = omega (arith, prefix_more is_word_byte b bs word) in
          rw m (word_in_front at b bs word)
      | inr differs ↦
          let none : prefix_len is_word_byte (b ∷ bs) ≡ 0 = rw differs refl in
          let single : n ≡ 1 = omega arith in
          rw single (one_in_front at b bs h (and_left (is_word_byte b) (begins_in_word bs) differs))
    ]

-- the comment, step by step
pub no_comment_here : (xs : List ℕ) (i : ℕ) → i < length xs → begins_comment (drop i xs) ≡ false
    → before_comment (drop i xs) ≡ get_or xs i 0 ∷ before_comment (drop (i + 1) xs)
no_comment_here xs i lt h = grind (arith, common_steps, nat_tests, drop_more)

-- a line that ends
pub line_ends : (text : List ℕ) (n : ℕ) → n ≡ prefix_len (λ b. not (eqb b 10)) text → n < length text
    → lines_of text ≡ take n text ∷ lines_of (take (length text - (n + 1)) (drop (n + 1) text))
line_ends text n e lt = grind (arith, common_steps, nat_tests, take_rest, slice_split_first)

last_line : (text : List ℕ) → length text ≤ prefix_len (λ b. not (eqb b 10)) text → lines_of text ≡ text ∷ []
last_line [] le = refl
last_line (b ∷ bs) le = grind (arith, common_steps, nat_tests, cases_Bool, last_line bs)

-- the last line
pub line_lasts : (text : List ℕ) (n : ℕ) → n ≡ prefix_len (λ b. not (eqb b 10)) text → length text ≤ n
    → lines_of text ≡ text ∷ []
line_lasts text n e le = last_line text (omega arith)

-- no line end stands in a line
unbroken : (text : List ℕ) → length (filter is_line_end (take (prefix_len (λ b. not (eqb b 10)) text) text)) ≡ 0
unbroken [] = refl
unbroken (b ∷ bs) =
    elim (cases_Bool (eqb b 10)) [
      | inl here ↦ rw here refl
      | inr differs ↦ rw (prefix_more (λ c. not (eqb c 10)) b bs (rw differs refl), differs) (unbroken bs)
    ]

pub line_unbroken : (text : List ℕ) (n : ℕ) → n ≡ prefix_len (λ b. not (eqb b 10)) text → count_ends (take n text) ≡ 0
line_unbroken text n e =
    rw e
    (sym (length-filter is_line_end (take (prefix_len (λ b. not (eqb b 10)) text) text)) ∙ unbroken text)

pub last_unbroken : (text : List ℕ) (n : ℕ) → n ≡ prefix_len (λ b. not (eqb b 10)) text → length text ≤ n
    → count_ends text ≡ 0
last_unbroken text n e le = sym (ap count_ends (take_all n text le)) ∙ line_unbroken text n e

pub line_whole : (text : List ℕ) (n : ℕ) → n ≡ prefix_len (λ b. not (eqb b 10)) text → n < length text
    → text ≡ take n text ++ 10 ∷ take (length text - (n + 1)) (drop (n + 1) text)
line_whole text n e lt =
    let stop : not (eqb (get_or text n 0) 10) ≡ false =
    rw e (prefix_len_stops (λ b. not (eqb b 10)) text 0 (omega arith)) in
    let end : get_or text n 0 ≡ 10 = grind (arith, nat_tests) in
    rw take_rest
    (sym (take-append-drop n text) ∙ ap (λ (bs : List ℕ). take n text ++ bs)
    (drop_more text n 0 lt ∙ ap (λ b. b ∷ drop (n + 1) text) end))

pub ruleset lines_in_front = (line_ends, line_lasts, line_whole, line_unbroken, last_unbroken)

name_here : (m : ℕ) (bs : List ℕ) → m ≡ max (prefix_len is_word_byte bs) 1 → is_name (take m bs) ≡ true
    → take_while is_word_byte bs ≡ take m bs
name_here m bs h h2 = grind (arith, common_steps, nat_tests, prefix_more)

pub name_is_word : (n m : ℕ) (bs : List ℕ) → m ≡ max (prefix_len is_word_byte (drop n bs)) 1
    → is_name (take m (take (length bs - n) (drop n bs))) ≡ true
    → take_while is_word_byte (drop n bs) ≡ take m (take (length bs - n) (drop n bs))
name_is_word n m bs e h = rw take_rest (name_here m (drop n bs) e (rw take_rest at h))

pub comment_step : (xs : List ℕ) (i : ℕ) (total : List ℕ) → i < length xs
    → begins_comment (take (length xs - i) (drop i xs)) ≡ false → take i xs ++ before_comment (drop i xs) ≡ total
    → take (i + 1) xs ++ before_comment (drop (i + 1) xs) ≡ total
comment_step xs i total lt h so_far = grind (arith, common_steps, nat_tests, no_comment_here, take_rest, take_more, append_assoc)

-- blanks in front are no token
skip : (at : ℕ) (bs : List ℕ)
    → lexemes_from at bs ≡ lexemes_from (at + prefix_len is_blank bs) (drop (prefix_len is_blank bs) bs)
skip at [] = nothing_left at ∙ sym (nothing_left (at + 0))
skip at (b ∷ bs) =
    elim (cases_Bool (is_blank b)) [
      | inl blank ↦
          let index : (at + 1) + prefix_len is_blank bs ≡ at + suc (prefix_len is_blank bs) = omega arith in
          blank_in_front at b bs blank ∙ skip (at + 1) bs ∙ rw (prefix_more is_blank b bs blank, index) refl
      | inr differs ↦
          let none : prefix_len is_blank (b ∷ bs) ≡ 0 = rw differs refl in
          let index : at + 0 ≡ at = omega arith in
          rw (none, index) refl
    ]

pub none_is : (at n : ℕ) (bs : List ℕ) → n ≡ prefix_len is_blank bs → length bs ≤ n → lexemes_from at bs ≡ []
none_is at n bs e le = skip at bs ∙ rw (← e, drop_all n bs le) (nothing_left (at + n))

pub token_is : (at n m : ℕ) (bs : List ℕ) → n ≡ prefix_len is_blank bs → n < length bs
    → m ≡ max (prefix_len is_word_byte (drop n bs)) 1
    → lexemes_from at bs ≡ (record { start = at + n; text = take m (drop n bs) })
    ∷ lexemes_from (at + (n + m)) (drop (n + m) bs)
token_is at n m bs e lt k =
    let front = drop_more bs n 0 lt in
    let shown : is_blank (get_or bs n 0) ≡ false = rw e (prefix_len_stops is_blank bs 0 (omega arith)) in
    let index : (at + n) + m ≡ at + (n + m) = omega arith in
    skip at bs ∙ rw (← e) (ap (lexemes_from (at + n)) front)
    ∙ token_in_front (at + n) m (get_or bs n 0) (drop (n + 1) bs) shown (rw front at k)
    ∙ rw (← front, index, drop-drop m n bs) refl

-- tokens without their indices
abbrev pub words_from : ℕ → List ℕ → List (List ℕ)
words_from at bs = map (λ (l : Lexeme). l.text) (lexemes_from at bs)

unfoldable pub onto_word : ℕ → List (List ℕ) → List (List ℕ)
onto_word b [] = (b ∷ []) ∷ []
onto_word b (w ∷ ws) = (b ∷ w) ∷ ws

joined_words : (at b : ℕ) (ls : List Lexeme)
    → map (λ (l : Lexeme). l.text) (joined at b ls) ≡ onto_word b (map (λ (l : Lexeme). l.text) ls)
unfolding onto_word
joined_words at b ls = grind (arith, common_steps, nat_tests)

-- words do not depend on where the text begins
pub words_at : (a b : ℕ) (bs : List ℕ) → words_from a bs ≡ words_from b bs
unfolding lexemes_from
words_at a b [] = refl
words_at a b (c ∷ cs) =
    let remaining = words_at (a + 1) (b + 1) cs in
    elim (cases_Bool (is_blank c)) [
      | inl blank ↦ rw blank remaining
      | inr differs ↦
          elim (cases_Bool (is_word_byte c && begins_in_word cs)) [
            | inl more ↦ rw (differs, more) (joined_words a c (lexemes_from (a + 1) cs) ∙ ap (onto_word c) remaining
                ∙ sym (joined_words b c (lexemes_from (b + 1) cs)))
            | inr end ↦ rw (differs, end) (ap (λ (ws : List (List ℕ)). (c ∷ []) ∷ ws) remaining)
          ]
    ]

pub words_blank : (b : ℕ) (bs : List ℕ) → is_blank b ≡ true → words_of_part (b ∷ bs) ≡ words_of_part bs
words_blank b bs h = ap (map (λ (l : Lexeme). l.text)) (blank_in_front 0 b bs h) ∙ words_at 1 0 bs

pub words_one : (b : ℕ) (bs : List ℕ) → is_blank b ≡ false → (is_word_byte b && begins_in_word bs) ≡ false
    → words_of_part (b ∷ bs) ≡ (b ∷ []) ∷ words_of_part bs
words_one b bs h k = grind (arith, common_steps, nat_tests, one_in_front, words_at)

pub words_mark : (b : ℕ) (bs : List ℕ) → is_blank b ≡ false → is_word_byte b ≡ false
    → words_of_part (b ∷ bs) ≡ (b ∷ []) ∷ words_of_part bs
words_mark b bs h k = words_one b bs h (and_left (is_word_byte b) (begins_in_word bs) k)

pub words_more : (b c : ℕ) (bs : List ℕ) → is_word_byte b ≡ true → is_word_byte c ≡ true
    → words_of_part (b ∷ c ∷ bs) ≡ onto_word b (words_of_part (c ∷ bs))
words_more b c bs h k = ap (map (λ (l : Lexeme). l.text)) (more_in_front 0 b (c ∷ bs) h k)
    ∙ joined_words 0 b (lexemes_from 1 (c ∷ bs)) ∙ ap (onto_word b) (words_at 1 0 (c ∷ bs))

-- a word in front of something else
pub words_word : (b : ℕ) (w remaining : List ℕ) → is_word_byte b ≡ true → list_all is_word_byte w ≡ true
    → begins_in_word remaining ≡ false → words_of_part (b ∷ (w ++ remaining)) ≡ (b ∷ w) ∷ words_of_part remaining
unfolding onto_word
words_word b [] remaining h all k = grind (arith, common_steps, nat_tests, words_one, word_not_blank, and_right)
words_word b (c ∷ w) remaining h all k =
    grind (arith, common_steps, nat_tests, and_parts, words_more, words_word c w remaining)

pub words_nil : words_of_part [] ≡ []
unfolding lexemes_from
words_nil = refl

abbrev Slices : List ℕ → List Lexeme → Type 0
Slices text ts = AllByRecursion (λ (t : Lexeme). IsSliceOf text t.start t.text) ts

-- a slice of a slice
slice_in : (text part bytes : List ℕ) (at n : ℕ) → IsSliceOf text at part → bytes ≡ take (length bytes) (drop n part)
    → n + length bytes ≤ length part → IsSliceOf text (at + n) bytes
slice_in text part bytes at n outer inner within =
    let more : length part ≡ n + (length part - n) = omega arith in
    let behind = drop n (drop at text) in
    inner ∙ ap (λ (bs : List ℕ). take (length bytes) (drop n bs)) outer
    ∙ ap (λ l. take (length bytes) (drop n (take l (drop at text)))) more
    ∙ ap (take (length bytes)) (drop-take n (length part - n) (drop at text))
    ∙ take-take (length bytes) (length part - n) behind (omega arith) ∙ ap (take (length bytes)) (drop-drop n at text)

slices_from : (most : ℕ) (text : List ℕ) (at : ℕ) (bs : List ℕ) → length bs < most → IsSliceOf text at bs
    → Slices text (lexemes_from at bs)
slices_from zero text at bs lt slice = absurd (omega arith)
slices_from (suc most) text at bs lt slice =
    let n = prefix_len is_blank bs in
    let m = max (prefix_len is_word_byte (drop n bs)) 1 in
    elim (cases_lt n (length bs)) [
      | inl some ↦
          let fits : n + m ≤ length bs =
          omega (arith, prefix_len-le-length is_word_byte (drop n bs), length-drop n bs) in
          let len : length (take m (drop n bs)) ≡ m = length-take-le m (drop n bs) (omega (arith, length-drop n bs)) in
          let remaining : length (drop (n + m) bs) ≡ length bs - (n + m) = length-drop (n + m) bs in
          rw (token_is at n m bs refl some refl) (
            slice_in text bs (take m (drop n bs)) at n slice (rw len refl) (omega arith),
            slices_from most text (at + (n + m)) (drop (n + m) bs) (omega arith)
                (slice_in text bs (drop (n + m) bs) at (n + m) slice (rw (remaining, take_rest) refl) (omega arith)),
          )
      | inr none ↦ rw (none_is at n bs refl none) tt
    ]

-- a line begins with what stands before its comment, and no word goes on behind that
pub comment_of : (line : List ℕ)
    → (comment : List ℕ) × (line ≡ before_comment line ++ comment) × (begins_in_word comment ≡ false)
comment_of [] = ([], refl, refl)
comment_of (b ∷ bs) =
    elim (cases_Bool (begins_comment (b ∷ bs))) [
      | inl here ↦ (b ∷ bs, rw here refl, grind (arith, nat_tests))
      | inr differs ↦ let remaining = comment_of bs in (remaining.0, rw differs (ap (λ (cs : List ℕ). b ∷ cs) remaining.1), remaining.2)
    ]

pub all_append : {A : Type 0} (P : A → Type 0) (xs ys : List A) → AllByRecursion P xs → AllByRecursion P ys
    → AllByRecursion P (xs ++ ys)
all_append P [] ys h k = k
all_append P (x ∷ xs) ys h k = (h.0, all_append P xs ys h.1 k)

abbrev both_slices : (text : List ℕ) (ts us : List Lexeme) → Slices text ts → Slices text us → Slices text (ts ++ us)
both_slices text = all_append (λ (t : Lexeme). IsSliceOf text t.start t.text)

line_slices : (text : List ℕ) (at : ℕ) (line remaining : List ℕ) → drop at text ≡ line ++ remaining
    → Slices text (lexemes_from at (before_comment line))
line_slices text at line remaining h =
    let comment = comment_of line in
    let front : drop at text ≡ before_comment line ++ (comment.0 ++ remaining) =
    h ∙ ap (λ (cs : List ℕ). cs ++ remaining) comment.1 ∙ append_assoc (before_comment line) comment.0 remaining in
    slices_from (suc (length (before_comment line))) text at (before_comment line) (omega arith)
    (rw front (sym (take-append_seam (before_comment line) (comment.0 ++ remaining))))

after_line : (text : List ℕ) (at : ℕ) (line remaining : List ℕ) → drop at text ≡ line ++ 10 ∷ remaining
    → drop (at + length line + 1) text ≡ remaining
after_line text at line remaining h =
    let index : at + length line + 1 ≡ at + (length line + 1) = omega arith in
    rw index (sym (drop-drop (length line + 1) at text) ∙ ap (drop (length line + 1)) h
    ∙ drop-append-add line (10 ∷ remaining) 1)

lines_slices : (text : List ℕ) (at : ℕ) (lines : List (List ℕ)) → drop at text ≡ join_with_byte 10 lines
    → Slices text (lexemes_of_lines at lines)
lines_slices text at [] h = tt
lines_slices text at (line ∷ []) h =
    both_slices text (lexemes_from at (before_comment line)) []
    (line_slices text at line [] (h ∙ sym (append-nil line))) tt
lines_slices text at (line ∷ next ∷ lines) h =
    both_slices text (lexemes_from at (before_comment line)) (lexemes_of_lines (at + length line + 1) (next ∷ lines))
    (line_slices text at line (10 ∷ join_with_byte 10 (next ∷ lines)) h)
    (lines_slices text (at + length line + 1) (next ∷ lines)
    (after_line text at line (join_with_byte 10 (next ∷ lines)) h))

token_slices : (text : List ℕ) → Slices text (tokens_of text)
unfolding tokens_of
token_slices text = lines_slices text 0 (lines_of text) (sym (join_with_byte-slice_split 10 text))

found_recursively : (text : List ℕ) (tokens : List Token) → Slices text (lexemes tokens)
    → AllByRecursion (λ (t : Token). IsSliceOf text t.start t.text.now) tokens
found_recursively text [] h = tt
found_recursively text (t ∷ tokens) h = (h.0, found_recursively text tokens h.1)

pub found_slices : (text : List ℕ) (tokens : List Token) → lexemes tokens ≡ tokens_of text
    → All (λ (t : Token). IsSliceOf text t.start t.text.now) tokens
found_slices text tokens e =
    All-from_recursion (λ (t : Token). IsSliceOf text t.start t.text.now) tokens
    (found_recursively text tokens (subst (Slices text) (sym e) (token_slices text)))

-- the tokens of one more line were found
pub next_tokens : (text remaining line : List ℕ) (others : List (List ℕ)) (start : ℕ) (tokens more : List Token)
    → lexemes tokens ++ lexemes_of_lines start (lines_of remaining) ≡ tokens_of text → lines_of remaining ≡ line ∷ others
    → lexemes more ≡ lexemes tokens ++ lexemes_from start (before_comment line)
    → lexemes more ++ lexemes_of_lines (start + (length line + 1)) others ≡ tokens_of text
next_tokens text remaining line others start tokens more so_far line_more added = grind (arith, common_steps, nat_tests, append_assoc)

-- the words of the lines, in order, are the tokens
words_of_lines : (at : ℕ) (lines : List (List ℕ))
    → map (λ (t : Lexeme). t.text) (lexemes_of_lines at lines) ≡ flat_map words_of_line lines
words_of_lines at [] = refl
words_of_lines at (line ∷ lines) =
    map-append (λ (t : Lexeme). t.text) (lexemes_from at (before_comment line))
    (lexemes_of_lines (at + length line + 1) lines)
    ∙ ap (λ ws. ws ++ map (λ (t : Lexeme). t.text) (lexemes_of_lines (at + length line + 1) lines))
    (words_at at 0 (before_comment line))
    ∙ ap (λ ws. words_of_line line ++ ws) (words_of_lines (at + length line + 1) lines)

pub words_are_tokens : (text : List ℕ)
    → map (λ (t : Lexeme). t.text) (tokens_of text) ≡ flat_map words_of_line (lines_of text)
unfolding tokens_of
words_are_tokens text = words_of_lines 0 (lines_of text)

-- the first token of a part, and its words
pub words_front : (part remaining t : List ℕ) (s n : ℕ)
    → ((at : ℕ) → lexemes_from at part ≡ (record { start = at + s; text = t }) ∷ lexemes_from (at + n) remaining)
    → words_of_part part ≡ t ∷ words_of_part remaining
words_front part remaining t s n h = grind (arith, common_steps, nat_tests, words_at)

some_statement : (ss : List (List (List ℕ))) → 0 < length ss → ss ≡ first_statement ss ∷ drop 1 ss
some_statement ss h = grind (arith, common_steps, nat_tests)

pub statements_are : (part : List ℕ) → statements_in part ≡ words_in part ∷ others_in part
unfolding words_in others_in
statements_are part = grind (arith, common_steps, nat_tests, some_statement, length-slice_split)

pub no_token : (part : List ℕ) → ((at : ℕ) → lexemes_from at part ≡ []) → (words_in part ≡ []) × (others_in part ≡ [])
unfolding words_in others_in
no_token part h = rw (h 0) (refl, refl)

pub statement_ends : (t part remaining : List ℕ) → is_semicolon t ≡ true → words_of_part part ≡ t ∷ words_of_part remaining
    → (words_in part ≡ []) × (others_in part ≡ words_in remaining ∷ others_in remaining)
unfolding words_in others_in
statement_ends t part remaining end e = rw (e, end) (refl, statements_are remaining)

pub token_next : (t part remaining : List ℕ) → is_semicolon t ≡ false → words_of_part part ≡ t ∷ words_of_part remaining
    → (words_in part ≡ t ∷ words_in remaining) × (others_in part ≡ others_in remaining)
unfolding words_in others_in
token_next t part remaining differs e = rw (e, differs, statements_are remaining) (refl, refl)
