-- A text spells a list exactly where it has no fault, and then only one.
use Rattle.scf_text.proofs.Common.{◌≡◌, ◌≢◌, ℕ, Bool, false, bytes_eq, map, IsDistinct, ◌+◌, ◌<◌, ◌≤◌, true, cond, eqb, List, [], ◌∷◌, ◌++◌, length, Option, Some, None, refl, zero-add, arith, IsSome, option_or, option_map, option_to_list, AllByRecursion, list_any, flat_map, cases_Bool, lt-ltb, le-ltb, lt-leb, nat_tests, length-append, IsInsn, bpf_maxinsns, Insn, encodings, FieldValue, ParsedInsn, has_mnemonic, read_by, parsed_of, is_below, is_in_range, field_number, Statement, Labels, SymbolTable, index_of, symbols_in, label_in, instruction_in, label_at, labels_from, parsed_insns_by, parsed_insns_in, statements_of, parsed_insns_of, Says, SaysInsn, SaysEach, AreNew, Spells, ascii_fault, label_fault, operands_fault, instruction_fault, statements_fault, target_fault, targets_fault, insn_fault, fault_of}
use Rattle.scf_text.specs.Encodings.{Encoding}
use Rattle.std.proofs.lemmas.List.{append-nil}
use Rattle.scf_text.proofs.ReadLemmas.{bytes_eq_sym, count_more, labels_more, lookup_push, is_none}
use Rattle.std.proofs.lemmas.Grind.{common_steps}

-- choices

both_none : {A : Type 0} (a b : Option A) → option_or a b ≡ None → (a ≡ None) × (b ≡ None)
both_none None b h = (refl, h)
both_none (Some x) b h = absurd cc

none_both : {A : Type 0} {a b : Option A} → a ≡ None → b ≡ None → option_or a b ≡ None
none_both h k = rw h k

-- ASCII

pub ascii_from : (text : List ℕ) (line : ℕ) → ascii_fault line text ≡ None → AllByRecursion (λ b. b < 128) text
ascii_from [] line h = tt
ascii_from (b ∷ bs) line h = grind (arith, common_steps, nat_tests, ascii_from bs)

pub ascii_to : (text : List ℕ) (line : ℕ) → AllByRecursion (λ b. b < 128) text → ascii_fault line text ≡ None
ascii_to [] line h = refl
ascii_to (b ∷ bs) line h = rw (lt-ltb b 128 h.0) (ascii_to bs (cond (eqb b 10) (line + 1) line) h.1)

-- the label of a statement

new_from : (earlier : Labels) (at line : ℕ) (o : Option (List ℕ)) (ls : Labels)
    → label_fault (index_of earlier) line o ≡ None → AreNew (earlier ++ label_at at o) ls
    → AreNew earlier (label_at at o ++ ls)
new_from earlier at line o ls h h2 = grind (arith, common_steps, nat_tests, append-nil, is_none)

new_to : (earlier : Labels) (at line : ℕ) (o : Option (List ℕ)) (ls : Labels) → AreNew earlier (label_at at o ++ ls)
    → (label_fault (index_of earlier) line o ≡ None) × AreNew (earlier ++ label_at at o) ls
new_to earlier at line o ls h = grind (arith, common_steps, nat_tests, append-nil)

-- labels are new one behind the other where their names are distinct

abbrev names : Labels → List (List ℕ)
names ls = map (λ (l : List ℕ × ℕ). l.0) ls

-- labels whose names have no index among these
abbrev AreBesides : Labels → Labels → Type 0
AreBesides earlier ls = AllByRecursion (λ (l : List ℕ × ℕ). index_of earlier l.0 ≡ None) ls

abbrev AreOthers : List ℕ → Labels → Type 0
AreOthers name ls = AllByRecursion (λ other. bytes_eq name other ≡ false) (names ls)

other_name : (b : Bool) (o : Option ℕ) (index : ℕ) → option_or o (cond b (Some index) None) ≡ None
    → (o ≡ None) × (b ≡ false)
other_name b o index h = grind (arith, common_steps, nat_tests)

besides_more : (earlier : Labels) (l : List ℕ × ℕ) (ls : Labels) → AreBesides (earlier ++ l ∷ []) ls
    → AreBesides earlier ls × AreOthers l.0 ls
besides_more earlier l [] h = (tt, tt)
besides_more earlier l (m ∷ ls) h =
    grind (arith, common_steps, nat_tests, lookup_push, other_name, bytes_eq_sym, besides_more earlier l ls h.1)

besides_less : (earlier : Labels) (l : List ℕ × ℕ) (ls : Labels) → AreBesides earlier ls → AreOthers l.0 ls
    → AreBesides (earlier ++ l ∷ []) ls
besides_less earlier l [] h k = tt
besides_less earlier l (m ∷ ls) h k = grind (arith, common_steps, nat_tests, lookup_push, bytes_eq_sym, besides_less earlier l ls h.1 k.1)

new_distinct : (earlier ls : Labels) → AreNew earlier ls → AreBesides earlier ls × IsDistinct bytes_eq (names ls)
unfolding IsDistinct
new_distinct earlier [] h = (tt, tt)
new_distinct earlier (l ∷ ls) h = grind (arith, common_steps, nat_tests, besides_more, new_distinct (earlier ++ l ∷ []) ls h.1)

distinct_new : (earlier ls : Labels) → AreBesides earlier ls → IsDistinct bytes_eq (names ls) → AreNew earlier ls
unfolding IsDistinct
distinct_new earlier [] h k = tt
distinct_new earlier (l ∷ ls) h k =
    grind (arith, common_steps, nat_tests, besides_less, distinct_new (earlier ++ l ∷ []) ls)

besides_none : (ls : Labels) → AreBesides [] ls
besides_none [] = tt
besides_none (l ∷ ls) = (refl, besides_none ls)

-- the instruction of a statement

abbrev numbered : ℕ → Option ParsedInsn → List (ℕ × ParsedInsn)
numbered line o = option_to_list (option_map (λ d. (line, d)) o)

-- what stands there says an instruction
abbrev IsRead : ℕ → List (List ℕ) → Type 0
IsRead line body = parsed_insns_by line body ≡ [] → body ≡ []

draft_from : (at line : ℕ) (o : Option ParsedInsn) → operands_fault at line o ≡ None → (numbered line o ≢ [])
    × (at + length (numbered line o) ≤ bpf_maxinsns)
draft_from at line o h = grind (arith, common_steps, nat_tests)

instruction_from : (at line : ℕ) (body : List (List ℕ)) → at ≤ bpf_maxinsns → instruction_fault at line body ≡ None
    → IsRead line body × (at + length (parsed_insns_by line body) ≤ bpf_maxinsns)
instruction_from at line body h h2 = grind (arith, common_steps, nat_tests, draft_from)

abbrev count : List Statement → ℕ
count before = length (flat_map parsed_insns_in before)

-- no fault of a statement: the names are new, and each instruction is read, at most 4096 in all
statements_from_none : (ss before : List Statement) → count before ≤ bpf_maxinsns
    → statements_fault before ss ≡ None → AreNew (labels_from 0 before) (labels_from (count before) ss)
    × AllByRecursion (λ (s : Statement). IsRead s.line (instruction_in s.tokens)) ss
    × (count before + length (flat_map parsed_insns_in ss) ≤ bpf_maxinsns)
statements_from_none [] before le h = (tt, tt, omega arith)
statements_from_none (s ∷ ss) before le h =
    let at = count before in
    let body = instruction_in s.tokens in
    let label = label_fault (symbols_in before) s.line (label_in s.tokens) in
    let one =
    both_none (option_or label (instruction_fault at s.line body)) (statements_fault (before ++ s ∷ []) ss) h in
    let parts = both_none label (instruction_fault at s.line body) one.0 in
    let read = instruction_from at s.line body le parts.1 in
    let remaining =
    rw (labels_more, zero-add, count_more) at
    (statements_from_none ss (before ++ s ∷ []) (rw count_more read.1) one.1) in (
      new_from (labels_from 0 before) at s.line (label_in s.tokens) (labels_from (at + length (parsed_insns_in s)) ss)
          parts.0 remaining.0,
      (read.0, remaining.1),
      omega (arith, length-append (parsed_insns_by s.line body) (flat_map parsed_insns_in ss), remaining.2),
    )

-- and back

chosen_form : (fs : List Encoding) (t : List ℕ) (ts : List (List ℕ)) → IsSome (read_by field_number fs t ts)
    → list_any (has_mnemonic t) fs ≡ true
chosen_form [] t ts h = absurd cc
chosen_form (f ∷ fs) t ts h = grind (arith, common_steps, nat_tests, cases_Bool, chosen_form fs t ts)

has_form : (t : List ℕ) (ts : List (List ℕ)) → IsSome (parsed_of t ts) → list_any (has_mnemonic t) encodings ≡ true
unfolding parsed_of
has_form t ts h = chosen_form encodings t ts h

abbrev InRange : List (ℕ × ParsedInsn) → Type 0
InRange ds = AllByRecursion (λ (d : ℕ × ParsedInsn). is_in_range d.1 ≡ true) ds

front_in_range : (ds es : List (ℕ × ParsedInsn)) → InRange (ds ++ es) → InRange ds × InRange es
front_in_range [] es h = (tt, h)
front_in_range (d ∷ ds) es h = grind (arith, common_steps, nat_tests, front_in_range ds es h.1)

read_some : (line : ℕ) (o : Option ParsedInsn) → (numbered line o ≡ [] → ⊥) → IsSome o
read_some line o h = grind (arith, common_steps, nat_tests)

draft_to : (at line : ℕ) (o : Option ParsedInsn) → IsSome o → InRange (numbered line o)
    → at + length (numbered line o) ≤ bpf_maxinsns → operands_fault at line o ≡ None
draft_to at line o h h2 h3 = grind (arith, common_steps, nat_tests, lt-leb)

instruction_to : (at line : ℕ) (body : List (List ℕ)) → IsRead line body → InRange (parsed_insns_by line body)
    → at + length (parsed_insns_by line body) ≤ bpf_maxinsns → instruction_fault at line body ≡ None
instruction_to at line body h h2 h3 = grind (arith, common_steps, nat_tests, read_some, has_form, draft_to)

ruleset one_more = (front_in_range, length-append, instruction_to, new_to, none_both, labels_more, zero-add, count_more)

statements_to_none : (ss before : List Statement)
    → AreNew (labels_from 0 before) (labels_from (count before) ss)
    → AllByRecursion (λ (s : Statement). IsRead s.line (instruction_in s.tokens)) ss → InRange (flat_map parsed_insns_in ss)
    → count before + length (flat_map parsed_insns_in ss) ≤ bpf_maxinsns → statements_fault before ss ≡ None
statements_to_none [] before new read range few = refl
statements_to_none (s ∷ ss) before new read range few =
    grind (arith, common_steps, nat_tests, one_more, statements_to_none ss (before ++ s ∷ []))

-- what is said

says_value : (symbols : SymbolTable) (at line limit : ℕ) (o : FieldValue) (v : ℕ) → Says symbols at o v → v < limit
    → (is_below limit o ≡ true) × (target_fault symbols at line limit o ≡ None)
says_value symbols at line limit o v h h2 = grind (arith, common_steps, nat_tests, lt-ltb, le-ltb, lt-leb)

says_insn : (symbols : SymbolTable) (at line : ℕ) (d : ParsedInsn) (i : Insn) → SaysInsn symbols at d i → IsInsn i
    → (is_in_range d ≡ true) × (insn_fault symbols at line d ≡ None)
says_insn symbols at line d i s fits = grind (arith, common_steps, nat_tests, says_value, lt-ltb)

says_each : (symbols : SymbolTable) (at : ℕ) (ds : List (ℕ × ParsedInsn)) (is : List Insn) → SaysEach symbols at ds is
    → AllByRecursion IsInsn is → InRange ds × (targets_fault symbols at ds ≡ None) × (length ds ≡ length is)
says_each symbols at [] [] s fits = (tt, refl, refl)
says_each symbols at [] (i ∷ is) s fits = absurd s
says_each symbols at (d ∷ ds) [] s fits = absurd s
says_each symbols at (d ∷ ds) (i ∷ is) s fits = grind (arith, common_steps, nat_tests, says_insn, none_both, says_each symbols (at + 1) ds is s.1 fits.1)

-- a text that spells a list has no fault
pub no_fault : (text : List ℕ) (is : List Insn) → Spells text is → fault_of text ≡ None
unfolding fault_of
no_fault text is s = grind (arith, common_steps, nat_tests, says_each, distinct_new, besides_none, statements_to_none, none_both, ascii_to)

-- a text with no fault spells what its instructions say
pub spelled : (text : List ℕ) (is : List Insn) → fault_of text ≡ None
    → SaysEach (symbols_in (statements_of text)) 0 (parsed_insns_of text) is → AllByRecursion IsInsn is → Spells text is
unfolding fault_of
spelled text is none says fits =
    let outer =
    both_none (ascii_fault 1 text)
    (option_or (statements_fault [] (statements_of text))
    (targets_fault (symbols_in (statements_of text)) 0 (parsed_insns_of text))) none in
    let inner =
    both_none (statements_fault [] (statements_of text))
    (targets_fault (symbols_in (statements_of text)) 0 (parsed_insns_of text)) outer.1 in
    let read =
    statements_from_none (statements_of text) [] (omega arith) inner.0 in
    let spelled = says_each (symbols_in (statements_of text)) 0 (parsed_insns_of text) is says fits in
    record {
      ascii = ascii_from text 1 outer.0;
      distinct = (new_distinct [] (labels_from 0 (statements_of text)) read.0).1;
      few = omega (arith, spelled.2, read.2);
      fields =
          fits;
      read = read.1;
      each = says;
    }

-- a text spells one list

one_value : (symbols : SymbolTable) (at : ℕ) (o : FieldValue) (v w : ℕ) → Says symbols at o v → Says symbols at o w → v ≡ w
one_value symbols at o v w h h2 = grind (arith, common_steps, nat_tests)

abbrev insn : ℕ → ℕ → ℕ → ℕ → Insn
insn code jt jf k = record { code = code; jt = jt; jf = jf; k = k }

one_insn : (symbols : SymbolTable) (at : ℕ) (d : ParsedInsn) (i j : Insn) → SaysInsn symbols at d i → SaysInsn symbols at d j → i ≡ j
one_insn symbols at d i j s t = grind (arith, common_steps, nat_tests, one_value)

pub one_said : (symbols : SymbolTable) (at : ℕ) (ds : List (ℕ × ParsedInsn)) (is js : List Insn) → SaysEach symbols at ds is
    → SaysEach symbols at ds js → is ≡ js
one_said symbols at [] [] [] s t = refl
one_said symbols at [] [] (j ∷ js) s t = absurd t
one_said symbols at [] (i ∷ is) js s t = absurd s
one_said symbols at (d ∷ ds) [] js s t = absurd s
one_said symbols at (d ∷ ds) (i ∷ is) [] s t = absurd t
one_said symbols at (d ∷ ds) (i ∷ is) (j ∷ js) s t = grind (arith, common_steps, nat_tests, one_insn, one_said symbols (at + 1) ds is js s.1 t.1)
