-- Whether scopes have records under the tables of a bundle.
use Rattle.std.proofs.Common.{Bool, HoldsAt, IsTrue, MatchBool, None, Option, Some, false, true, ◌<◌, ◌↔◌}
use Rattle.std.proofs.lemmas.Bool.{false≢true}
use Rattle.std.proofs.lemmas.List.{get_or-map, length-map}
use Rattle.std.proofs.lemmas.List.Elements.{All-contains, All-from_all_within, All-map}
use Rattle.std.specs.List.{AllWithin}
use Rattle.std.specs.FinMap.{get}
use Rattle.scf_insn.specs.declared.architecture.Architecture.{Architecture}
use Rattle.scf_profile.specs.NamedCalls.{AreCallsOf}
use Rattle.scf_profile.specs.Scope.{IsInScope}
use Rattle.scf_profile.specs.Table.{Names}
use Rattle.scf_profile.specs.declared.named_call.NamedCall.{NamedCall}
use Rattle.scf_profile.specs.declared.scope.Scope.{Scope}
use Rattle.scf_request.specs.Contents.{rest_of_table}
use Rattle.scf_request.specs.Requests.{HasRecord}
use Rattle.scf_request.specs.declared.contents.TableReader.{TableReader}
use Rattle.scf_tool.proofs.Common.{List, Ok, PartReader, [], arith, get_or, length, map, refl, sym, ◌∙◌, ◌∷◌, ◌≡◌, ℕ}
use Rattle.scf_tool.specs.ArchitectureScopes.{HasRecordAmong, NameNoCall, scope_of}
use Rattle.scf_tool.proofs.Common.{AllZip}
use Rattle.scf_tool.specs.Inputs.{SpellsTable}
use Rattle.scf_tool.specs.internal.Sides.{AreTables}

-- ---- architectures

-- the scope has a record of the table's architecture
abbrev pub HasOne : Scope → TableReader PartReader → Type 0
HasOne scope table = HasRecord (IsInScope (scope_of scope table.architecture))

some_among : (tables : List (TableReader PartReader)) (scope : Scope) (k : ℕ) → k < length tables
    → HoldsAt (HasOne scope) tables k → HasRecordAmong (map rest_of_table tables) scope
some_among [] scope k inside at = absurd (omega (arith, inside))
some_among (table ∷ tables) scope k inside at =
    let text = rest_of_table (get_or (table ∷ tables) k table) in
    let within : k < length (map rest_of_table (table ∷ tables)) =
    omega (arith, inside, length-map (table ∷ tables) rest_of_table) in
    (text, (k, within, get_or-map rest_of_table (table ∷ tables) k table text inside), at table)

none_among : (tables : List (TableReader PartReader)) (scope : Scope)
    → AllWithin (λ table. HasOne scope table → ⊥) tables 0 (length tables)
    → HasRecordAmong (map rest_of_table tables) scope → ⊥
none_among tables scope none (table, contained, has) =
    let each = All-map (λ (text : Architecture × List ℕ). HasRecord (IsInScope (scope_of scope text.0)) → ⊥) rest_of_table
    tables (All-from_all_within (λ text. HasOne scope text → ⊥) tables none) in
    All-contains (λ (text : Architecture × List ℕ). HasRecord (IsInScope (scope_of scope text.0)) → ⊥)
    (map rest_of_table tables) table each contained has

pub among_cases : (r : Bool) (tables : List (TableReader PartReader)) (scope : Scope)
    → MatchBool r ((k : ℕ) × (k < length tables) × HoldsAt (HasOne scope) tables k)
    (AllWithin (λ table. HasOne scope table → ⊥) tables 0 (length tables))
    → IsTrue r ↔ HasRecordAmong (map rest_of_table tables) scope
among_cases true tables scope cases = (λ is. some_among tables scope cases.0 cases.1 cases.2, λ has. refl)
among_cases false tables scope none =
    (λ is. absurd (false≢true is), λ has. absurd (none_among tables scope none has))

-- ---- a table without a call

some_named : (names : Names) (calls : List NamedCall) (name : List ℕ) (number : Option ℕ) → AreCallsOf names calls
    → length calls ≡ 0 → get names name ≡ number → number ≡ None
some_named names [] name None are none is = refl
some_named names [] name (Some number) are none is =
    let listed = (are.exact number).1 (name, is) in absurd (omega (arith, listed.1))
some_named names (call ∷ calls) name number are none is = absurd (omega (arith, none))

module _ (texts : List (Architecture × List ℕ)) (table : Architecture × Names) (calls : List NamedCall)
    (spelled : AllZip SpellsTable texts (table ∷ [])) (are : AreCallsOf table.1 calls) where
  -- a table without a call names none
  pub no_calls : length calls ≡ 0 → NameNoCall texts
  no_calls none = by_text texts spelled
    where
      by_text : (texts : List (Architecture × List ℕ)) → AllZip SpellsTable texts (table ∷ []) → NameNoCall texts
      by_text [] each = absurd each
      by_text (text ∷ []) each =
          (text, refl, table.1, each.0.1, λ name. some_named table.1 calls name (get table.1 name) are none refl)
      by_text (text ∷ second ∷ texts) each = absurd each.1

  pub some_calls : NameNoCall texts → length calls ≡ 0
  some_calls (only, is, names, spell, lack) = by_calls calls are
    where
      stated : AllZip SpellsTable (only ∷ []) (table ∷ [])
      stated = rw is at spelled

      same : names ≡ table.1
      same = let one : Ok names ≡ Ok table.1 = sym spell ∙ stated.0.1 in cc

      by_calls : (calls : List NamedCall) → AreCallsOf table.1 calls → length calls ≡ 0
      by_calls [] are = refl
      by_calls (call ∷ calls) are =
          let named = (are.exact call.number).0 (0, omega arith, refl) in
          let has = named.1 in
          let lacks = rw same at (lack named.0) in
          absurd (cc)

-- texts that aren't all tables aren't one without a call
pub not_valid : (texts : List (Architecture × List ℕ)) → (AreTables texts → ⊥) → NameNoCall texts → ⊥
not_valid texts invalid (only, is, names, spell, lack) = invalid ((only.0, names) ∷ [], rw is ((refl, spell), tt))
