-- The tests of a value give neither `Json` nor `Conflict`, and not `Memory`.
use Rattle.scf_profile.proofs.Common.{◌≡◌, ◌≢◌, ℕ, Bool, cond, List, [], ◌∷◌, ◌++◌, Option, Result, Ok, Err, IfErr, option_map_or, Data, Items, no_items, item, LoadFault, IsText, TestsGive, Reading, RefusesEachAs, NamesFirstConflict, Tables, LoadedProfiles, ◌+◌, ◌>>=◌, ok_or, each, errno_of, answer_in, no_engine_form, condition_of, entry_of, seccomp_of, entries_of, all_listed, profiles_of, arith, nat_tests, common_steps}
use Rattle.scf_profile.specs.declared.load_fault.LoadFault.TheVariants as faults

abbrev pub IsTestFault : LoadFault → Type 0
IsTestFault faults.Json = ⊥
IsTestFault faults.Memory = ⊥
IsTestFault (faults.Conflict number first second) = ⊥
IsTestFault fault = Unit {0}

-- a result that has no other fault
record IsTest {A : Type 0} (r : Result A LoadFault) : Type 0 where
  pub fault : IfErr r IsTestFault

ok_test : {A : Type 0} (x : A) → IsTest {A = A} (Ok x)
ok_test x = record { fault = tt }

err_test : {A : Type 0} (e : LoadFault) → IsTestFault e → IsTest {A = A} (Err e)
err_test e h = record { fault = h }

then_test : {A B : Type 0} (r : Result A LoadFault) (f : A → Result B LoadFault) → IsTest r → ((x : A) → IsTest (f x))
    → IsTest (r >>= f)
then_test r f h h2 = grind (arith, common_steps, nat_tests)

some_test : {A : Type 0} (o : Option A) (e : LoadFault) → IsTestFault e → IsTest (ok_or o e)
some_test o e h = grind (arith, common_steps, nat_tests)

cond_test : {A : Type 0} (b : Bool) (r s : Result A LoadFault) → IsTest r → IsTest s → IsTest (cond b r s)
cond_test b r s h h2 = grind (arith, common_steps, nat_tests)

map_or_test : {A B : Type 0} (f : A → Result B LoadFault) (o : Option A) (r : Result B LoadFault)
    → ((x : A) → IsTest (f x)) → IsTest r → IsTest (option_map_or f o r)
map_or_test f o r h h2 = grind (arith, common_steps, nat_tests)

each_test : {A : Type 0} (test : List A → Data → Result A LoadFault)
    → ((before : List A) (d : Data) → IsTest (test before d)) → (before : List A) (items : Items)
    → IsTest (each test before items)
unfolding each
each_test test h before no_items = ok_test _
each_test test h before (item d ds) =
    then_test (test before d) _ (h before d) (λ x. each_test test h (before ++ x ∷ []) ds)

-- the tests, each in a chain of them
ruleset tests = (ok_test, err_test, then_test, some_test, cond_test, map_or_test, each_test, tt)

answer_test : (reading : Reading) (entry : Option ℕ) (name errno_name : List ℕ) (d : Data)
    → IsTest (answer_in reading entry name errno_name d)
unfolding answer_in errno_of
answer_test reading entry name errno_name d = search tests depth 20

entry_test : (reading : Reading) (entry : Option ℕ) (d : Data) → IsTest (entry_of reading entry d)
unfolding entry_of no_engine_form condition_of
entry_test reading entry d = search (tests, answer_test) depth 40 fits 4000

seccomp_test : (root : Data) → IsTest (seccomp_of root)
unfolding seccomp_of
seccomp_test root = search tests depth 40 fits 4000

entries_test : (reading : Reading) (d : Data) → IsTest (entries_of reading d)
unfolding entries_of no_engine_form
entries_test reading d = search (tests, entry_test) depth 40 fits 4000

listed_test : (index : ℕ) (names : List (List ℕ)) (tables : Tables) → IsTest (all_listed index names tables)
unfolding all_listed
listed_test index names [] = ok_test tt
listed_test index names (t ∷ tables) = grind (arith, common_steps, nat_tests, then_test, cond_test, err_test, ok_test, listed_test (index + 1) names tables)

profiles_test : (reading : Reading) (tables : Tables) (root : Data) → IsTest (profiles_of reading tables root)
unfolding profiles_of
profiles_test reading tables root = search (tests, seccomp_test, answer_test, entries_test, listed_test) depth 40 fits 4000

-- ---- what the value of a text fails first, or out of memory

pub refuses_each_of_fault : (reading : Reading) (text : List ℕ) (tables : Tables) (d : Data) (e : LoadFault)
    → IsText text d → (e ≢ faults.Memory → profiles_of reading tables d ≡ Err e) → RefusesEachAs reading text tables e
refuses_each_of_fault reading text tables d e is_text fails =
    let is_test = profiles_test reading tables d in grind (arith, common_steps, nat_tests)

pub refuses_each_of_conflict : (reading : Reading) (text : List ℕ) (tables : Tables) (loaded : LoadedProfiles)
    → TestsGive reading text tables (Ok loaded) → (e : LoadFault)
    → NamesFirstConflict loaded.profiles e → RefusesEachAs reading text tables e
refuses_each_of_conflict reading text tables loaded h e h2 = grind (arith, common_steps, nat_tests)
