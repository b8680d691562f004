-- Loops over the items of an array, and over tables.
use Rattle.scf_profile.specs.declared.load_fault.LoadFault.TheVariants.{NotListed}
use Rattle.scf_profile.proofs.Common.{common_steps, ◌≡◌, ℕ, suc, ◌+◌, ◌<◌, ◌≤◌, List, [], ◌∷◌, length, get_or, drop, refl, sym, ap, ◌∙◌, add-one, String, Global, Bool, map, ◌||◌, drop-cons, list_any, drop_all, Architecture, ArchitectureTable, Option, Some, None, is_some, option_map, cond, true, false, find, row_of, is_named, all_listed, Ok, Err, table_for, tables_of, Value, item, no_items, view, items_view, members_view, items_len, members_len, arith, nat_tests}

-- the items from an index on, in the words that a search finds
pub items_at : (vs : List Value) (i : ℕ) (d : Value) → i < length vs
    → (get_or vs i d ≡ get_or vs i d)
    × (items_view (drop i vs) ≡ item (view (get_or vs i d)) (items_view (drop (i + 1) vs)))
items_at vs i d lt = (refl, rw (add-one, drop-cons vs i d))

pub items_end : (vs : List Value) (i : ℕ) → length vs ≤ i → items_view (drop i vs) ≡ no_items
items_end vs i le = ap items_view (drop_all i vs le)

pub ruleset items_left = (common_steps, items_at, items_end)

pub list_any-map : {A B : Type 0} (p : B → Bool) (f : A → B) (xs : List A)
    → list_any p (map f xs) ≡ list_any (λ x. p (f x)) xs
list_any-map p f [] = refl
list_any-map p f (x ∷ xs) = ap (λ (b : Bool). p (f x) || b) (list_any-map p f xs)

-- how many items and members there are
pub items_counted : (vs : List Value) → items_len (items_view vs) ≡ length vs
items_counted [] = refl
items_counted (v ∷ vs) = ap suc (items_counted vs)

pub members_counted : (ms : List (String Global × Value)) → members_len (members_view ms) ≡ length ms
members_counted [] = refl
members_counted (m ∷ ms) = ap suc (members_counted ms)

pub ruleset lengths = (items_counted, members_counted)

-- whether one is found, through a view of what was found
is_some-viewed : {A B : Type 0} (f : A → B) (o : Option A) → is_some (option_map f o) ≡ is_some o
is_some-viewed f o = grind (arith, common_steps, nat_tests)

is_some-find : {A : Type 0} (p : A → Bool) (xs : List A) → is_some (find p xs) ≡ list_any p xs
is_some-find p [] = refl
is_some-find p (x ∷ xs) = by_test (p x) (is_some-find p xs) where
  by_test : (b : Bool) → is_some (find p xs) ≡ list_any p xs
      → is_some (cond b (Some x) (find p xs)) ≡ (b || list_any p xs)
  by_test b h = grind (arith, common_steps, nat_tests)

pub is_found : {A B : Type 0} (p : B → Bool) (f : A → B) (found : Option A) (xs : List B)
    → option_map f found ≡ find p xs → is_some found ≡ list_any p xs
is_found p f found xs is = sym (is_some-viewed f found) ∙ ap is_some is ∙ is_some-find p xs

find-map : {A B : Type 0} (p : B → Bool) (f : A → B) (xs : List A)
    → find p (map f xs) ≡ option_map f (find (λ x. p (f x)) xs)
find-map p f [] = refl
find-map p f (x ∷ xs) = by_test (p (f x)) (find-map p f xs) where
  by_test : (b : Bool) → find p (map f xs) ≡ option_map f (find (λ y. p (f y)) xs)
      → cond b (Some (f x)) (find p (map f xs)) ≡ option_map f (cond b (Some x) (find (λ y. p (f y)) xs))
  by_test b h = grind (arith, common_steps, nat_tests)

-- the table of an architecture, where one of its name was found
pub table_found : (tables : List ArchitectureTable) (a : Architecture) (first : Option ArchitectureTable)
    → first ≡ find (λ t. is_named (row_of a).name t.architecture) tables
    → option_map (λ t. t.table.now) first ≡ table_for (tables_of tables) a
table_found tables a first is = grind (arith, common_steps, nat_tests, find-map)

-- ---- tables whose architectures have to be listed

listed_step : (names : List (List ℕ)) (tables : List ArchitectureTable) (i : ℕ) (d : ArchitectureTable) → i < length tables
    → tables_of (drop i tables)
    ≡ ((get_or tables i d).architecture, (get_or tables i d).table.now) ∷ tables_of (drop (i + 1) tables)
listed_step names tables i d lt = rw (add-one, drop-cons tables i d lt) refl

pub unlisted_here : (names : List (List ℕ)) (tables : List ArchitectureTable) (i : ℕ) (d : ArchitectureTable)
    → i < length tables → list_any (λ name. is_named name (get_or tables i d).architecture) names ≡ false
    → all_listed i names (tables_of (drop i tables)) ≡ Err (NotListed i)
unfolding all_listed
unlisted_here names tables i d lt none = rw (listed_step names tables i d lt, none) refl

pub listed_here : (names : List (List ℕ)) (tables : List ArchitectureTable) (i : ℕ) (d : ArchitectureTable)
    → i < length tables → list_any (λ name. is_named name (get_or tables i d).architecture) names ≡ true
    → all_listed i names (tables_of (drop i tables)) ≡ all_listed (i + 1) names (tables_of (drop (i + 1) tables))
unfolding all_listed
listed_here names tables i d lt some = rw (listed_step names tables i d lt, some) refl

pub listed_end : (names : List (List ℕ)) (tables : List ArchitectureTable) (i : ℕ) → length tables ≤ i
    → all_listed i names (tables_of (drop i tables)) ≡ Ok tt
unfolding all_listed
listed_end names tables i past = rw (drop_all i tables past) refl
