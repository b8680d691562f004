use Rattle.std.specs.List.{flat_map}
use Rattle.scf_profile.specs.declared.entry.Entry.{Entry}
use Rattle.scf_profile.proofs.Common.{◌≡◌, ◌∙◌, ℕ, List, Tables, filter, HasSkipped, is_in_none, skipped_names, refl, map, profiles_of, effective_profile, map-map, loaded_profiles_of, stated_profile, subst, sym, AreOfApart, tables_of, arith, nat_tests, common_steps}
use Rattle.scf_profile.proofs.Handed.{handed_on}
use Rattle.scf_profile.proofs.Stated.{still_apart, none_too_many, profiles_apart}
use Rattle.scf_profile.proofs.profile_text.read_root_for.Goals as goal

-- the skipped names are those of the entries, where the names that were kept have them
skipped_are : (tables : Tables) (entries first second : List Entry) (names kept skipped : List (List ℕ))
    → names ≡ flat_map (λ e. e.names) first → first ≡ entries → second ≡ entries
    → (HasSkipped tables second names → HasSkipped tables second kept) → skipped ≡ filter (is_in_none tables) kept
    → skipped ≡ skipped_names tables entries
skipped_are tables entries first second names kept skipped named is also keeps are =
    are ∙ rw also at (keeps (rw (named, is, also) refl))

pub returns-in_err-object-clause-value : goal.returns-in_err-object-clause-value
unfolding profiles_of
returns-in_err-object-clause-value c = grind (arith, common_steps, nat_tests, handed_on, c.from_residual.ensures.1, c.in_err-object.ensures)

pub returns-in_err-default_answer-clause-value : goal.returns-in_err-default_answer-clause-value
unfolding profiles_of
returns-in_err-default_answer-clause-value c =
    handed_on (loaded_profiles_of c.args.reading) _ _ _ c.from_residual-in_err-default_answer.ensures.1 (λ not_memory.
    rw (← c.in_ok-object.ensures, ← c.in_err-default_answer.ensures.value) refl)

pub returns-in_err-find_items-clause-value : goal.returns-in_err-find_items-clause-value
unfolding profiles_of
returns-in_err-find_items-clause-value c =
    handed_on (loaded_profiles_of c.args.reading) _ _ _ c.from_residual-in_err-find_items.ensures.1 (λ not_memory.
    rw (← c.in_ok-object.ensures, ← c.in_ok-default_answer.ensures.value, ← c.in_err-find_items.ensures) refl)

pub returns-in_err-architectures-clause-value : goal.returns-in_err-architectures-clause-value
unfolding profiles_of
returns-in_err-architectures-clause-value c =
    handed_on (loaded_profiles_of c.args.reading) _ _ _ c.from_residual-in_err-architectures.ensures.1 (λ not_memory.
    rw (
      ← c.in_ok-object.ensures,
      ← c.in_ok-default_answer.ensures.value,
      ← c.in_ok-find_items.ensures,
      c.in_err-architectures.ensures not_memory,
    ) refl)

pub returns-in_err-check_listed-clause-value : goal.returns-in_err-check_listed-clause-value
unfolding profiles_of
returns-in_err-check_listed-clause-value c =
    handed_on (loaded_profiles_of c.args.reading) _ _ _ c.from_residual-in_err-check_listed.ensures.1 (λ not_memory.
    rw (
      ← c.in_ok-object.ensures,
      ← c.in_ok-default_answer.ensures.value,
      ← c.in_ok-find_items.ensures,
      c.in_ok-architectures.ensures,
      ← c.in_err-check_listed.ensures,
    ) refl)

pub returns-in_err-entries-clause-value : goal.returns-in_err-entries-clause-value
unfolding profiles_of
returns-in_err-entries-clause-value c =
    handed_on (loaded_profiles_of c.args.reading) _ _ _ c.from_residual-in_err-entries.ensures.1 (λ not_memory.
    rw (
      ← c.in_ok-object.ensures,
      ← c.in_ok-default_answer.ensures.value,
      ← c.in_ok-find_items.ensures,
      c.in_ok-architectures.ensures,
      ← c.in_ok-check_listed.ensures,
      c.in_err-entries.ensures.value not_memory,
    ) refl)

pub returns-in_err-rules-clause-value : goal.returns-in_err-rules-clause-value
unfolding profiles_of
returns-in_err-rules-clause-value c =
    handed_on (loaded_profiles_of c.args.reading) _ _ _ c.from_residual-in_err-rules.ensures.1 (λ not_memory.
    rw (
      ← c.in_ok-object.ensures,
      ← c.in_ok-default_answer.ensures.value,
      ← c.in_ok-find_items.ensures,
      c.in_ok-architectures.ensures,
      ← c.in_ok-check_listed.ensures,
      c.in_ok-entries.ensures.value,
    )
    (grind (arith, common_steps, nat_tests, c.left_out-left_out.ensures, c.deref-2.ensures.value, c.in_err-rules.ensures.err c.in_ok-default_answer.default_answer not_memory)))

pub returns-clause-value : goal.returns-clause-value
unfolding profiles_of
returns-clause-value c =
    let skipped = skipped_are (tables_of c.args.tables.now) _ _ _ _ _ _ c.in_ok-names.ensures c.deref.ensures.value c.deref-2.ensures.value
    c.in_ok-rules.ensures.names c.in_ok-skipped.ensures in
    rw (
      ← c.in_ok-object.ensures,
      ← c.in_ok-default_answer.ensures.value,
      ← c.in_ok-find_items.ensures,
      c.in_ok-architectures.ensures,
    )
    (grind (arith, common_steps, nat_tests, none_too_many, map-map, c.left_out-left_out.ensures, c.in_ok-rules.ensures.rules, c.in_ok-rules.ensures.range, c.deref-2.ensures.value, skipped, c.in_ok-check_listed.ensures, c.in_ok-entries.ensures.value, c.in_ok-other_architectures.ensures))

pub returns-clause-apart : goal.returns-clause-apart
returns-clause-apart c =
    let default = c.in_ok-default_answer.default_answer in
    let profiles = map (stated_profile default) c.in_ok-rules.rules.items in
    let apart = subst AreOfApart (sym (c.in_ok-rules.ensures.rules default))
    (profiles_apart c.left_out-left_out.result (tables_of c.args.tables.now) default c.deref-2.result.now) in
    subst AreOfApart (map-map (effective_profile c.args.reading) (stated_profile default) c.in_ok-rules.rules.items)
    (still_apart (effective_profile c.args.reading) profiles (λ p. refl) apart)
