-- Where the parts of a line stand in the text.
use Rattle.scf_text.proofs.Common.{◌≡◌, ℕ, ◌+◌, ◌-◌, ◌<◌, ◌≤◌, false, List, [], ◌∷◌, ◌++◌, length, take, drop, Option, Some, None, Result, IfOk, refl, sym, ap, ◌∙◌, append_assoc, append-nil, arith, inl, inr, filter-append, take_while, take_rest, drop-append-add, cases_Bool, MatchOption, Bor, drop-drop, drop-append-le, take-add, take-append-le, take-append-add, take-append-drop, length-append, length-drop, length-filter, is_word_byte, count_ends, begins_in_word, before_comment, IsLinePart, IsBehind, FollowsBehind, LiesBehind, name_at, line_at, index_after, nat_tests}
use Rattle.scf_text.specs.declared.part.Next.{Next}
use Rattle.scf_text.proofs.TokenLemmas.{prefix_more, comment_of}
use Rattle.std.proofs.lemmas.Grind.{common_steps}

count_append : (xs ys : List ℕ) → count_ends (xs ++ ys) ≡ count_ends xs + count_ends ys
count_append xs ys = grind (arith, common_steps, nat_tests, length-filter, filter-append, length-append)

lines_before : (text bytes : List ℕ) (index n : ℕ) → take n (drop index text) ≡ bytes
    → line_at text (index + n) ≡ line_at text index + count_ends bytes
lines_before text bytes index n e = grind (arith, common_steps, take-add, count_append, take, drop)

rest_whole : (text part behind : List ℕ) (start n : ℕ) → drop start text ≡ part ++ behind → n ≤ length part
    → drop (start + n) text ≡ drop n part ++ behind
rest_whole text part behind start n whole le =
    sym (drop-drop n start text) ∙ ap (drop n) whole ∙ drop-append-le n part behind le

-- what follows in the part
pub rest_is_part : (text part remaining : List ℕ) (line start n : ℕ) → IsLinePart text line start part → n ≤ length part
    → remaining ≡ drop n part → IsLinePart text line (start + n) remaining
rest_is_part text part remaining line start n p le e =
    let both = count_append (take n part) (drop n part) in
    let all = ap count_ends (take-append-drop n part) in
    let front : take n (drop start text) ≡ take n part = ap (take n) p.whole ∙ take-append-le n part p.behind le in
    let short : length remaining ≡ length part - n = ap length e ∙ length-drop n part in
    record {
      behind = p.behind;
      whole = rest_whole text part p.behind start n p.whole le ∙ ap (λ (bs : List ℕ). bs ++ p.behind) (sym e);
      ends = p.ends;
      numbered = omega (arith, lines_before text (take n part) start n front, both, all, p.unbroken, p.numbered);
      unbroken = omega (arith, both, all, p.unbroken, ap count_ends e);
      within = omega (arith, p.within);
    }

-- no more lines end within the part
pub line_of_part : (text part : List ℕ) (line start n : ℕ) → IsLinePart text line start part → n ≤ length part
    → line_at text (start + n) ≡ line
line_of_part text part line start n p le =
    (rest_is_part text part (drop n part) line start n p le refl).numbered

word_ends : (xs ys : List ℕ) → begins_in_word ys ≡ false
    → take_while is_word_byte (xs ++ ys) ≡ take_while is_word_byte xs
word_ends [] [] h = refl
word_ends [] (y ∷ ys) h = rw h refl
word_ends (x ∷ xs) ys h =
    elim (cases_Bool (is_word_byte x)) [
      | inl word ↦ rw (prefix_more is_word_byte x (xs ++ ys) word, prefix_more is_word_byte x xs word)
          (ap (λ (bs : List ℕ). x ∷ bs) (word_ends xs ys h))
      | inr differs ↦ rw differs refl
    ]

-- a name of the part is the one at its index in the text
pub name_of_part : (text part : List ℕ) (line start n : ℕ) → IsLinePart text line start part → n ≤ length part
    → name_at text (start + n) ≡ name_at part n
name_of_part text part line start n p le =
    ap (take_while is_word_byte) (rest_whole text part p.behind start n p.whole le)
    ∙ word_ends (drop n part) p.behind p.ends

behind_line : (comment remaining : List ℕ) → begins_in_word comment ≡ false → begins_in_word remaining ≡ false
    → begins_in_word (comment ++ remaining) ≡ false
behind_line comment remaining h h2 = grind (arith, common_steps, nat_tests)

shown_is_part : (text line bytes after : List ℕ) (number start : ℕ) → drop start text ≡ line ++ after
    → start + (length line + length after) ≤ length text → begins_in_word after ≡ false
    → line_at text start ≡ number → count_ends line ≡ 0 → bytes ≡ before_comment line
    → IsLinePart text number start bytes
shown_is_part text line bytes after number start whole within ends numbered unbroken shown =
    let comment = comment_of line in
    let split : line ≡ bytes ++ comment.0 = rw shown comment.1 in
    let both = count_append bytes comment.0 in
    let long : length line ≡ length bytes + length comment.0 = ap length split ∙ length-append bytes comment.0 in
    record {
      behind = comment.0 ++ after;
      whole = whole ∙ ap (λ (bs : List ℕ). bs ++ after) split ∙ append_assoc bytes comment.0 after;
      ends = behind_line comment.0 after comment.2 ends;
      numbered = numbered;
      unbroken = omega (arith, both, ap count_ends split);
      within = omega arith;
    }

-- a line without its comment
pub line_is_part : (text remaining line bytes : List ℕ) (number start : ℕ) (after : Option (Bor (List ℕ)))
    → remaining ≡ drop start text → start + length remaining ≤ length text → line_at text start ≡ number
    → MatchOption after (remaining ≡ line) (λ next. remaining ≡ line ++ 10 ∷ next.now) → count_ends line ≡ 0
    → bytes ≡ before_comment line → IsLinePart text number start bytes
line_is_part text remaining line bytes number start None e within numbered whole unbroken shown =
    shown_is_part text line bytes [] number start (sym e ∙ whole ∙ sym (append-nil line))
    (omega (arith, ap length whole)) refl numbered unbroken shown
line_is_part text remaining line bytes number start (Some next) e within numbered whole unbroken shown =
    shown_is_part text line bytes (10 ∷ next.now) number start (sym e ∙ whole)
    (omega (arith, ap length whole, length-append line (10 ∷ next.now))) refl numbered unbroken shown

-- what follows a line
pub line_behind : (text remaining line next : List ℕ) (number start : ℕ) → remaining ≡ drop start text
    → line_at text start ≡ number → remaining ≡ line ++ 10 ∷ next → count_ends line ≡ 0
    → (next ≡ drop (start + (length line + 1)) text) × (line_at text (start + (length line + 1)) ≡ number + 1)
line_behind text remaining line next number start e numbered whole unbroken =
    let front : take (length line + 1) (drop start text) ≡ line ++ 10 ∷ [] =
    ap (take (length line + 1)) (sym e ∙ whole) ∙ take-append-add line (10 ∷ next) 1 in (
      sym (sym (drop-drop (length line + 1) start text) ∙ ap (drop (length line + 1)) (sym e ∙ whole)
          ∙ drop-append-add line (10 ∷ next) 1),
      omega (arith, lines_before text (line ++ 10 ∷ []) start (length line + 1) front, count_append line (10 ∷ [])),
    )

-- what follows the rest of a part follows the part

pub token_behind : (part : List ℕ) (index start len : ℕ) → index ≤ start → 0 < len → start + len ≤ length part
    → IsBehind part index (take (length part - (start + len)) (drop (start + len) part))
token_behind part index start len le some within = grind (arith, common_steps, nat_tests, take_rest)

rest_len : {part remaining : List ℕ} {index : ℕ} (b : IsBehind part index remaining) → length remaining ≡ length part - b.start
rest_len {part} b = ap length b.is ∙ length-drop b.start part

behind_behind : {part remaining end : List ℕ} {index : ℕ} → IsBehind part index remaining → IsBehind remaining 0 end
    → IsBehind part index end
behind_behind {part} b d = grind (arith, common_steps, rest_len, drop, drop-drop)

pub follows_behind : {part remaining : List ℕ} {index : ℕ} (after : Option (Bor (List ℕ))) → IsBehind part index remaining
    → FollowsBehind remaining 0 after → FollowsBehind part index after
follows_behind after h h2 = grind (arith, common_steps, nat_tests, behind_behind)

pub lies_behind : {part remaining : List ℕ} {index : ℕ} (next : Next) → IsBehind part index remaining → LiesBehind remaining 0 next
    → LiesBehind part index next
lies_behind next h h2 = grind (arith, common_steps, nat_tests, behind_behind, follows_behind)

-- where it begins
after_index : (part : List ℕ) (start index : ℕ) (after : Option (Bor (List ℕ))) → FollowsBehind part index after
    → start + index + 1 ≤ index_after start part after
after_index part start index after h = grind (arith, common_steps, nat_tests, rest_len)

pub index_within : (part : List ℕ) (index : ℕ) (next : Next) → LiesBehind part index next → index ≤ length part
index_within part index next h = grind (arith, common_steps, nat_tests)

-- what follows a statement is a part again
pub behind_is_part : (text part remaining : List ℕ) (line start : ℕ) → IsLinePart text line start part → IsBehind part 0 remaining
    → IsLinePart text line (start + (length part - length remaining)) remaining × (length remaining ≤ length part)
behind_is_part text part remaining line start p b = grind (arith, common_steps, nat_tests, rest_len, rest_is_part)

follows_part : (part : List ℕ) (index : ℕ) (after : Option (Bor (List ℕ))) → FollowsBehind part index after
    → FollowsBehind part 0 after
follows_part part index after h = grind (arith, common_steps, nat_tests)

pub instruction_behind : {E : Type 0} (r : Result (Option (Bor (List ℕ))) E) (bytes : List ℕ) (start index : ℕ)
    (next : Next) → LiesBehind bytes index next
    → IfOk r (λ after. (part : List ℕ) (index : ℕ) → LiesBehind part index next → FollowsBehind part index after)
    → IfOk r (λ after. start + index + 1 ≤ index_after start bytes after)
    × IfOk r (λ after. FollowsBehind bytes 0 after)
instruction_behind r bytes start index next lies h = grind (arith, common_steps, nat_tests, after_index, follows_part)
