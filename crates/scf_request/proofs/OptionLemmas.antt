-- Options among the matches of a command line, and among its rules.
use Rattle.scf_request.proofs.Common.{codes, false, Bool, filter_map, ◌≡◌, ◌||◌, ◌-◌, ◌^◌, ◌<◌, ◌+◌, ℕ, Bor, List, [], ◌∷◌, ◌++◌, Option, Some, None, true, false, append-nil, append_assoc, length, take, drop, get_or, map, refl, sym, ap, ◌∙◌, drop_more, map-append, map_more, map_push, take-append-drop, if◌then◌else◌, Architecture, is_some, option_to_list, filter_map-append, Row, first_value, with_rule, rows_of, Found, first_value-rows, NumberOption, choice_in, first_wrong, chosen_of, is_given, number_by, number_in, one_of, command_of, flags_in}
use Rattle.clap.specs.Words.{Rule, first_of}
use Rattle.scf_request.specs.declared.request.Limits.{Limits}
use Rattle.scf_request.specs.Options.{SelectsCalls, comparison_options, has_range, numbers_of_range, option_of_bits, range_options, scope_flags}
use Rattle.scf_request.specs.declared.request.Scopes.{Scopes}
use Rattle.scf_request.specs.declared.request.Scopes.TheVariants.{AtOnce, EachCall}
use Rattle.scf_profile.specs.declared.scope.Scope.TheVariants.{All, Native, Numbers}

pub by_value : (f : Found) (o : NumberOption) → number_in (rows_of f) o ≡ number_by o (first_value f o.name)
by_value f o = ap (number_by o) (sym (first_value-rows f o.name))

-- an option that has a text
pub has_text : (f : Found) (name : List ℕ) → is_some (first_of name (rows_of f)) ≡ is_some (first_value f name)
has_text f name = ap (λ (text : Option (List ℕ)). is_some text) (sym (first_value-rows f name))

-- where options spell numbers, none of them is wrong
pub none_wrong : (options : List NumberOption) (rows : List Row) (numbers : List ℕ)
    → map Some numbers ≡ map (number_in rows) options → first_wrong options rows ≡ None
none_wrong [] rows numbers e = refl
none_wrong (o ∷ options) rows [] e = absurd (cc)
none_wrong (o ∷ options) rows (n ∷ numbers) e =
    let first : number_in rows o ≡ Some n = cc in
    let others : map Some numbers ≡ map (number_in rows) options = cc in
    rw first (none_wrong options rows numbers others)

-- the ends of another range behind the same limits
pub with_range : (rows : List Row) (limits : Limits) (range moved_range : List ℕ)
    → map Some (limits.each ∷ limits.total ∷ limits.splits ∷ range) ≡ map (number_in rows) comparison_options
    → (map Some range ≡ map (number_in rows) range_options → map Some moved_range ≡ map (number_in rows) range_options)
    → map Some (limits.each ∷ limits.total ∷ limits.splits ∷ moved_range) ≡ map (number_in rows) comparison_options
with_range rows limits range moved_range spelled moved =
    let ends : map Some range ≡ map (number_in rows) range_options = cc in
    let moved_ends : map Some moved_range ≡ map (number_in rows) range_options = moved ends in
    cc

-- no flag stands for a range
no_range_flag : (rows : List Row) (architecture : Architecture) (first last : ℕ)
    → choice_in rows scope_flags ≡ Some (AtOnce (Numbers architecture first last)) → ⊥
no_range_flag rows architecture first last chosen =
    by_flags (is_given rows (codes "native")) (is_given rows (codes "calls")) chosen
  where
    by_flags : (native calls : Bool)
        → one_of (AtOnce All) (filter_map (λ (flag : Bool × Scopes). if flag.0 then Some flag.1 else None)
        ((native, AtOnce Native) ∷ (calls, EachCall) ∷ [])) ≡ Some (AtOnce (Numbers architecture first last)) → ⊥
    by_flags true true e = absurd (cc)
    by_flags true false e = absurd (cc)
    by_flags false true e = absurd (cc)
    by_flags false false e = absurd (cc)

-- the calls that a flag stands for, where no range is given
pub by_flags : (rows : List Row) (over : Scopes) → has_range rows ≡ false → choice_in rows scope_flags ≡ Some over
    → SelectsCalls rows over
by_flags rows EachCall none chosen = (none, chosen)
by_flags rows (AtOnce (Numbers architecture first last)) none chosen =
    absurd (no_range_flag rows architecture first last chosen)
by_flags rows (AtOnce scope) none chosen = (none, chosen)

without_text : (o : NumberOption) (text : Option (List ℕ)) → is_some text ≡ false → number_by o text ≡ Some o.default
without_text o None absent = refl
without_text o (Some text) absent = absurd (cc)

both_absent : (a b : Option (List ℕ)) → (is_some a || is_some b) ≡ false → (is_some a ≡ false) × (is_some b ≡ false)
both_absent None None none = (refl, refl)
both_absent None (Some b) none = absurd (cc)
both_absent (Some a) b none = absurd (cc)

-- the ends of all numbers, where none is given
pub open_range : (rows : List Row) → has_range rows ≡ false
    → map Some (0 ∷ (2 ^ 32 - 1) ∷ []) ≡ map (number_in rows) range_options
open_range rows none =
    let both = both_absent (first_of (codes "nr-from") rows) (first_of (codes "nr-to") rows) none in
    let first = without_text (option_of_bits 32 (codes "nr-from") 0) (first_of (codes "nr-from") rows) both.0 in
    let last = without_text (option_of_bits 32 (codes "nr-to") (2 ^ 32 - 1)) (first_of (codes "nr-to") rows) both.1 in
    rw (first, last) refl

-- they stand for the calls of a flag
pub range_of_flags : (rows : List Row) (over : Scopes) → has_range rows ≡ false
    → choice_in rows scope_flags ≡ Some over
    → map Some (numbers_of_range over) ≡ map (number_in rows) range_options
range_of_flags rows EachCall none chosen = open_range rows none
range_of_flags rows (AtOnce (Numbers architecture first last)) none chosen =
    absurd (no_range_flag rows architecture first last chosen)
range_of_flags rows (AtOnce scope) none chosen = open_range rows none

-- one more of the options or flags whose rules a command has
pub rules_more : {A B : Type 0} (rule : B → Rule) (of : A → B) (name : List ℕ) (front : List Rule) (items : List A)
    (i : ℕ) (d : A) → i < length items
    → command_of name (front ++ map rule (map of (take (i + 1) items)))
    ≡ with_rule (command_of name (front ++ map rule (map of (take i items)))) (rule (of (get_or items i d)))
rules_more rule of name front items i d lt =
    let before = map of (take i items) in
    ap (λ (rules : List Rule). command_of name (front ++ rules))
    (ap (map rule) (map_more of items i d lt) ∙ map_push rule before (of (get_or items i d)))
    ∙ ap (command_of name) (sym (append_assoc front (map rule before) (rule (of (get_or items i d)) ∷ [])))

abbrev if_given : {A : Type 0} → List Row → List ℕ × A → Option A
if_given rows flag = if is_given rows flag.0 then Some flag.1 else None

-- one more flag of a group
pub given_more : {A : Type 0} (rows : List Row) (group : List (Bor (List ℕ) × A)) (i : ℕ) (d : Bor (List ℕ) × A)
    → i < length group
    → chosen_of rows (flags_in (take (i + 1) group))
    ≡ chosen_of rows (flags_in (take i group)) ++ chosen_of rows (flags_in (get_or group i d ∷ []))
given_more {A} rows group i d lt =
    ap (λ (flags : List (List ℕ × A)). chosen_of rows flags) (map_more (λ flag. (flag.0.now, flag.1)) group i d lt)
    ∙ filter_map-append (if_given rows) (flags_in (take i group)) (flags_in (get_or group i d ∷ []))

-- a flag that isn't given
pub given_as_before : {A : Type 0} (rows : List Row) (group : List (Bor (List ℕ) × A)) (i : ℕ) (d : Bor (List ℕ) × A)
    (chosen : Option A) → i < length group → chosen_of rows (flags_in (take i group)) ≡ option_to_list chosen
    → is_given rows (get_or group i d).0.now ≡ false
    → chosen_of rows (flags_in (take (i + 1) group)) ≡ option_to_list chosen
given_as_before rows group i d chosen lt before here =
    given_more rows group i d lt ∙ rw (before, here) (append-nil (option_to_list chosen))

-- the first that is
pub given_first : {A : Type 0} (rows : List Row) (group : List (Bor (List ℕ) × A)) (i : ℕ) (d : Bor (List ℕ) × A)
    (chosen : Option A) → i < length group → chosen_of rows (flags_in (take i group)) ≡ option_to_list chosen
    → is_some chosen ≡ false → is_given rows (get_or group i d).0.now ≡ true
    → chosen_of rows (flags_in (take (i + 1) group)) ≡ (get_or group i d).1 ∷ []
given_first rows group i d None lt before none here = given_more rows group i d lt ∙ rw (before, here) refl
given_first rows group i d (Some first) lt before none here = absurd (cc)

-- another one
pub given_twice : {A : Type 0} (rows : List Row) (group : List (Bor (List ℕ) × A)) (i : ℕ) (d : Bor (List ℕ) × A)
    (chosen : Option A) (without : A) → i < length group
    → chosen_of rows (flags_in (take i group)) ≡ option_to_list chosen → is_some chosen ≡ true
    → is_given rows (get_or group i d).0.now ≡ true → choice_in rows (without, flags_in group) ≡ None
given_twice rows group i d None without lt before some here = absurd (cc)
given_twice {A} rows group i d (Some first) without lt before some here =
    let behind = chosen_of rows (flags_in (drop (i + 1) group)) in
    let whole : flags_in group ≡ flags_in (take i group) ++ flags_in (drop i group) =
    ap flags_in (sym (take-append-drop i group))
    ∙ map-append (λ flag. (flag.0.now, flag.1)) (take i group) (drop i group)
    in
    let given : chosen_of rows (flags_in group) ≡ first ∷ (get_or group i d).1 ∷ behind =
    ap (λ (flags : List (List ℕ × A)). chosen_of rows flags) whole
    ∙ filter_map-append (if_given rows) (flags_in (take i group)) (flags_in (drop i group))
    ∙ rw (before, drop_more group i d lt, here) refl in
    ap (one_of without) given
