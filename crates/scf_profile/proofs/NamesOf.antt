-- The map behind entries of names and numbers, and names as text.
use Rattle.scf_profile.proofs.Common.{common_steps, All-weaker, AllPass-from_list_all, IsAscii-from_all, ◌≡◌, ℕ, ◌<◌, None, true, cond, List, [], ◌∷◌, Some, length, BTreeMap, refl, sym, ap, ◌∙◌, subst, arith, IsUtf8, lookup, get, insert, get-from_entries, get-empty, get-insert, same_map, is_at, Updates, slice_cmp, nat_list_cmp_total, eq_by_cmp, eq_by_cmp_equiv, and_parts, nat_tests, IsUtf8-from_ascii, exact_bytes, x32_syscall_bit, Names, AreCallNumbers, is_call_name, is_in_name, names_of}
use Rattle.std.proofs.Common.{nat_cmp}
use Rattle.std.specs.FinMap.{empty, find}

find_named : (es : List (List ℕ × ℕ)) (q : List ℕ)
    → find (slice_cmp nat_cmp) q es ≡ lookup (is_at (slice_cmp nat_cmp q)) es
find_named [] q = refl
find_named (e ∷ es) q = ap (cond (eq_by_cmp (slice_cmp nat_cmp) q e.0) (Some e.1)) (find_named es q)

pub get_named : (es : List (List ℕ × ℕ)) (q : List ℕ)
    → get (names_of es) q ≡ lookup (is_at (slice_cmp nat_cmp q)) es
get_named es q = get-from_entries nat_list_cmp_total es q ∙ find_named es q

-- one more name
pub insert_named : (m n : BTreeMap (List ℕ) ℕ) (name : List ℕ) (v : ℕ)
    → Updates (slice_cmp nat_cmp) m n name (Some v) → names_of n.entries ≡ insert (names_of m.entries) name v
insert_named m n name v updates =
    same_map nat_list_cmp_total exact_bytes _ _ (λ q.
    get_named n.entries q ∙ updates.0 q
    ∙ ap (λ b. cond b (Some v) (lookup (is_at (slice_cmp nat_cmp q)) m.entries))
    ((eq_by_cmp_equiv nat_list_cmp_total).symm name q)
    ∙ sym (get-insert nat_list_cmp_total (names_of m.entries) name v q
    ∙ ap (cond (eq_by_cmp (slice_cmp nat_cmp) q name) (Some v)) (get_named m.entries q)))

-- no entries are behind the empty map
pub no_entries : (es : List (List ℕ × ℕ)) → names_of es ≡ empty → 0 < length es → ⊥
no_entries [] is some = omega (arith, some)
no_entries (e ∷ es) is some =
    let there = get-insert nat_list_cmp_total (names_of es) e.0 e.1 e.0 in
    let none = get-empty {X = ℕ} (slice_cmp nat_cmp) e.0 in
    let same = (eq_by_cmp_equiv nat_list_cmp_total).refl e.0 in
    let absent : get (names_of (e ∷ es)) e.0 ≡ None = rw is none in
    grind (arith, there, same, absent)

pub names_are_text : (text : List ℕ) → is_call_name text ≡ true → IsUtf8 text
names_are_text text h =
    IsUtf8-from_ascii text (IsAscii-from_all text
    (All-weaker (λ b. is_in_name b ≡ true) (λ b. b < 128) (λ b word. grind (arith, nat_tests)) text
    (AllPass-from_list_all is_in_name text (and_parts _ _ h).1)))

-- names without a number
pub call_numbers_empty : AreCallNumbers (names_of [])
call_numbers_empty name number h = let none = get-empty {X = ℕ} (slice_cmp nat_cmp) name in cc

-- names with one more number
call_numbers_insert : (names : Names) (name : List ℕ) (number : ℕ) → AreCallNumbers names → number < x32_syscall_bit
    → AreCallNumbers (insert names name number)
call_numbers_insert names name number each below q n h =
    grind (arith, common_steps, nat_tests, get-insert, nat_list_cmp_total)

-- the same of the maps
pub call_numbers_updated : (m n : BTreeMap (List ℕ) ℕ) (name : List ℕ) (number : ℕ)
    → Updates (slice_cmp nat_cmp) m n name (Some number) → AreCallNumbers (names_of m.entries)
    → number < x32_syscall_bit → AreCallNumbers (names_of n.entries)
call_numbers_updated m n name number updates each below =
    subst AreCallNumbers (sym (insert_named m n name number updates))
    (call_numbers_insert (names_of m.entries) name number each below)
