-- Profiles that are stated one after another.
use Rattle.scf_profile.proofs.Common.{Result, ◌>>=◌, Data, profiles_of, ◌≡◌, ℕ, ◌+◌, ◌<◌, Bool, true, false, ◌||◌, List, [], ◌∷◌, ◌++◌, Option, Some, None, All, option_map, cons_option, filter_map, list_any, map, drop, get_or, length, ltb, refl, arith, add-one, drop-cons, le-ltb, length-map, get_or-map, map-append, append_assoc, list_any-append, false≢true, AllPairs-cons, All-head, All-tail, All-contains, All-cons, All-nil, AllByRecursion, Contains-append_right, Answer, Architecture, AreApart, AreOfApart, X8664, Profile, HaveNoConflict, LoadFault, AreStatedRules, TellsOneTooMany, max_rules, architectures, profile_for, profiles_from, table_for, Tables, Names, stated_profile, effective_of, effective_rules, Reading, NamesLeastConflict, NamesFirstConflict, rules_from, with_stub, nat_tests, common_steps}
use Rattle.std.specs.Prelude.{IfOk}
use Rattle.scf_insn.proofs.Architectures.{EachApart, each_apart}
use Rattle.scf_profile.specs.Loading.{only_table}
use Rattle.scf_profile.specs.declared.entry.Entry.{Entry}
use Rattle.scf_profile.specs.declared.load_fault.LoadFault.TheVariants as faults
use Rattle.scf_profile.specs.declared.profile_text.StatedRules.{StatedRules}

-- ---- the rules of each architecture

-- one more, where there is one
abbrev pub with_found : List StatedRules → Option StatedRules → List StatedRules
with_found stated None = stated
with_found stated (Some rules) = stated ++ rules ∷ []

by_either : (a b c : Bool) → (b || false) ≡ true → (a || (b || c)) ≡ true
by_either a b c h = grind (arith, common_steps, nat_tests, false≢true)

module _ (out : Option Answer) (tables : Tables) (entries : List Entry) (all : List Architecture) (i : ℕ)
    (lt : i < length all) where
  abbrev here : Answer → Option Profile
  here default = profile_for out tables default entries (get_or all i X8664)

  abbrev behind : Answer → List Profile
  behind default = filter_map (profile_for out tables default entries) (drop (i + 1) all)

  split : (default : Answer) → filter_map (profile_for out tables default entries) (drop i all)
      ≡ cons_option (here default) (behind default)
  split default = rw (add-one, drop-cons all i X8664 lt) refl

  pub stated_more : (default : Answer) (stated : List StatedRules) (rules : Option StatedRules) (whole : List Profile)
      → option_map (stated_profile default) rules ≡ here default
      → map (stated_profile default) stated ++ filter_map (profile_for out tables default entries) (drop i all) ≡ whole
      → map (stated_profile default) (with_found stated rules) ++ behind default ≡ whole
  stated_more default stated rules whole is so_far = grind (arith, common_steps, nat_tests, split, map-append, append_assoc)

  -- the rules of one architecture are too many
  pub one_too_many : (default : Answer) (stated : List StatedRules) (whole : List Profile) (fault : LoadFault)
      → map (stated_profile default) stated ++ filter_map (profile_for out tables default entries) (drop i all) ≡ whole
      → TellsOneTooMany (cons_option (here default) []) fault → TellsOneTooMany whole fault
  one_too_many default stated whole fault so_far tells not_memory = grind (arith, common_steps, nat_tests, split, false≢true, list_any-append, by_either)

-- the rules of one of few tables aren't too many
pub none_too_many : (default : Answer) (stated : List StatedRules)
    → All (λ s. AreStatedRules s.architecture s.rules.items) stated
    → list_any (λ p. ltb max_rules (length p.rules)) (map (stated_profile default) stated) ≡ false
none_too_many default [] all = refl
none_too_many default (s ∷ stated) all =
    rw (le-ltb _ _ (All-head (λ o. AreStatedRules o.architecture o.rules.items) s stated all).few)
    (none_too_many default stated (All-tail (λ o. AreStatedRules o.architecture o.rules.items) s stated all))

-- ---- profiles of architectures that are apart

module _ (out : Option Answer) (tables : Tables) (default : Answer) (entries : List Entry) where
  abbrev profile_of : Architecture → Names → Profile
  profile_of a table =
      record { architecture = a; default_answer = default; rules = rules_from out a table 0 entries; stub = None }

  later_apart : (a : Architecture) (all : List Architecture) → AllByRecursion (AreApart a) all
      → All (λ p. AreApart a p.architecture) (filter_map (profile_for out tables default entries) all)
  later_apart a [] h = All-nil (λ p. AreApart a p.architecture)
  later_apart a (b ∷ all) h = by_table (table_for tables b) (later_apart a all h.1) where
    by_table : (o : Option Names)
        → All (λ p. AreApart a p.architecture) (filter_map (profile_for out tables default entries) all)
        → All (λ p. AreApart a p.architecture)
        (cons_option (option_map (profile_of b) o) (filter_map (profile_for out tables default entries) all))
    by_table None others = others
    by_table (Some table) others = All-cons (λ p. AreApart a p.architecture) (profile_of b table) _ h.0 others

  all_apart : (all : List Architecture) → EachApart all
      → AreOfApart (filter_map (profile_for out tables default entries) all)
  all_apart [] h = λ i j d lt within. absurd (omega arith)
  all_apart (a ∷ all) h = by_table (table_for tables a) (all_apart all h.1) where
    by_table : (o : Option Names) → AreOfApart (filter_map (profile_for out tables default entries) all)
        → AreOfApart
        (cons_option (option_map (profile_of a) o) (filter_map (profile_for out tables default entries) all))
    by_table None others = others
    by_table (Some table) others =
        AllPairs-cons (λ (p : Profile) (later : Profile). AreApart p.architecture later.architecture)
        (profile_of a table) _ (later_apart a all h.0) others

  pub profiles_apart : AreOfApart (profiles_from out tables default entries)
  profiles_apart = all_apart architectures each_apart

-- what leaves profiles their architectures leaves them apart
pub still_apart : (change : Profile → Profile) (profiles : List Profile)
    → ((p : Profile) → (change p).architecture ≡ p.architecture) → AreOfApart profiles
    → AreOfApart (map change profiles)
still_apart change profiles same apart i j d lt within =
    let inside : j < length profiles = rw (length-map profiles change) at within in
    let before : i < length profiles = omega (arith, lt, inside) in
    rw (
      get_or-map change profiles i d d before,
      get_or-map change profiles j d d inside,
      same (get_or profiles i d),
      same (get_or profiles j d),
    )
    (apart i j d lt inside)

pub with_stub_keeps_architecture : (a : Architecture) (first : Option ℕ) (p : Profile)
    → (with_stub a first p).architecture ≡ p.architecture
with_stub_keeps_architecture a first p = grind (arith, common_steps, nat_tests)

-- ---- conflicts of one profile after another

module _ (reading : Reading) (default : Answer) (all before : List StatedRules) (rules : StatedRules)
    (behind : List StatedRules) (split : before ++ rules ∷ behind ≡ all) where
  -- what holds of all holds of these
  pub of_own : (P : StatedRules → Type 0) → All P all → P rules
  of_own P holds =
      All-contains P all rules holds (rw (← split) (Contains-append_right before (rules ∷ behind) rules (0, omega arith, refl)))

  pub first_conflict : (profiles : List Profile) (fault : LoadFault)
      → profiles ≡ map (effective_of reading default) before
      → All (λ p. HaveNoConflict p.architecture p.rules) profiles
      → NamesLeastConflict rules.architecture (effective_rules reading rules.architecture rules.rules.items) fault
      → NamesFirstConflict (map (effective_of reading default) all) fault
  first_conflict profiles faults.Memory is none names = tt
  first_conflict profiles (faults.Conflict number first second) is none names = record {
    before = map (effective_of reading default) before;
    profile = effective_of reading default rules;
    behind = map (effective_of reading default) behind;
    split = rw (← split) (map-append (effective_of reading default) before (rules ∷ behind));
    none = rw (← is) none;
    least = names;
  }
  first_conflict profiles fault is none names = absurd names

-- ---- under a table of x86-64 alone

then_ok : {A B : Type 0} (P : B → Type 0) (r : Result A LoadFault) (f : A → Result B LoadFault)
    → ((x : A) → IfOk (f x) P) → IfOk (r >>= f) P
then_ok P r f h = grind (arith, common_steps, nat_tests)

pub one_profile : (reading : Reading) (table : Names) (root : Data)
    → IfOk (profiles_of reading (only_table table) root) (λ loaded. length loaded.profiles ≡ 1)
unfolding profiles_of
one_profile reading table root = search then_ok depth 10
