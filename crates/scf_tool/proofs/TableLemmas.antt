-- Tables of several architectures, one after another.
use Rattle.scf_tool.proofs.Common.{◌≡◌, ◌≢◌, ℕ, ◌+◌, ◌<◌, Bool, true, false, List, [], ◌∷◌, ◌++◌, length, get_or, take, drop, map, Ok, Err, refl, sym, subst, ap, ◌∙◌, arith, drop_more, map-append, take_more, take-append-drop, AllZip, PartReader, VerifyFault}
use Rattle.std.proofs.lemmas.List.Elements.{All-head, All-tail}
use Rattle.std.proofs.lemmas.List.Sums.{sum_by-cons}
use Rattle.std.proofs.lemmas.Slice.Zip.{all_zipped_more}
use Rattle.std.specs.Prelude.{All, Some, count_by}
use Rattle.scf_compare.specs.declared.finding.Finding.TheVariants.{Holds}
use Rattle.scf_insn.specs.Architectures.{row_of}
use Rattle.scf_profile.specs.Table.{table_of}
use Rattle.scf_profile.specs.StatedProfile.{is_named}
use Rattle.scf_profile.specs.declared.table_fault.TableFault.{TableFault}
use Rattle.scf_profile.specs.declared.table_fault.TableFault.TheVariants as faults
use Rattle.scf_request.specs.Contents.{rest_of, rest_of_table, texts_for}
use Rattle.scf_request.specs.Interpretations.{Interpretation}
use Rattle.scf_compare.specs.Sides.{Behavior}
use Rattle.scf_request.specs.declared.request.Comparison.{Comparison}
use Rattle.scf_tool.specs.Commands.{CantLoadEach}
use Rattle.scf_tool.specs.internal.Sides.{AreTables}
use Rattle.scf_request.specs.declared.request.Scopes.TheVariants.{EachCall}
use Rattle.scf_tool.specs.JointFindings.{AreFindings}
use Rattle.scf_tool.specs.declared.findings.CallFinding.{CallFinding}
use Rattle.scf_tool.specs.declared.sides.SideInput.{SideInput}
use Rattle.std.specs.Global.{Vec}
use Rattle.scf_tool.specs.Inputs.{HasNoTable, IsNoTableOf, IsShort, IsTableOf, SpellsTable, named_of}
use Rattle.scf_tool.specs.declared.owned_table.OwnedTable.{OwnedTable}
use Rattle.scf_insn.specs.declared.architecture.Architecture.{Architecture}
use Rattle.scf_profile.specs.StatedProfile.{Tables}
use Rattle.scf_profile.specs.Table.{Names}
use Rattle.scf_request.specs.declared.contents.TableReader.{TableReader}
use Rattle.scf_tool.specs.declared.verify_fault.VerifyFault.TheVariants.{Check, FilterRead, Memory, Profile as ProfileFault, ProfileRead, Stack, Table, TableRead}

-- ---- tables in memory

-- those of an architecture are counted
pub texts_counted : (architecture : Architecture) (tables : List (TableReader PartReader))
    → length (texts_for architecture (map rest_of_table tables))
    ≡ count_by (λ table. is_named (row_of architecture).name table.architecture) tables
texts_counted architecture [] = refl
texts_counted architecture (table ∷ tables) =
    by_test (is_named (row_of architecture).name table.architecture) refl (texts_counted architecture tables)
  where
    by_test : (is : Bool) → is_named (row_of architecture).name table.architecture ≡ is
        → length (texts_for architecture (map rest_of_table tables))
        ≡ count_by (λ table. is_named (row_of architecture).name table.architecture) tables
        → length (texts_for architecture (map rest_of_table (table ∷ tables)))
        ≡ count_by (λ table. is_named (row_of architecture).name table.architecture) (table ∷ tables)
    by_test true is behind = rw (sum_by-cons, is) (omega (arith, behind))
    by_test false is behind = rw (sum_by-cons, is) (omega (arith, behind))

-- ---- one table after another

module _ {P A : Type 0} (text : P → A) (parts : List P) (i : ℕ) (d : P) (lt : i < length parts) where
  one_text_more : map text (take (i + 1) parts) ≡ map text (take i parts) ++ text (get_or parts i d) ∷ []
  one_text_more = ap (map text) (take_more parts i d lt) ∙ map-append text (take i parts) (get_or parts i d ∷ [])

  texts_split : map text parts ≡ map text (take i parts) ++ text (get_or parts i d) ∷ map text (drop (i + 1) parts)
  texts_split = ap (map text) (sym (take-append-drop i parts)
      ∙ ap (λ (behind : List P). take i parts ++ behind) (drop_more parts i d lt))
      ∙ map-append text (take i parts) (get_or parts i d ∷ drop (i + 1) parts)

  -- one more is a table
  one_table_more : (IsOf : A → Architecture × Names → Type 0) (owned pushed : List OwnedTable) (last : OwnedTable)
      → AllZip IsOf (map text (take i parts)) (map named_of owned) → pushed ≡ owned ++ last ∷ []
      → IsOf (text (get_or parts i d)) (named_of last)
      → AllZip IsOf (map text (take (i + 1) parts)) (map named_of pushed)
  one_table_more IsOf owned pushed last before added is_table =
      let names : map named_of pushed ≡ map named_of owned ++ named_of last ∷ [] =
      ap (map named_of) added ∙ map-append named_of owned (last ∷ []) in
      rw (one_text_more, names)
      (all_zipped_more IsOf (map text (take i parts)) (map named_of owned) (text (get_or parts i d)) (named_of last)
      before is_table)

module _ (is_limited : Bool) (parts : List (TableReader PartReader)) (i : ℕ) (d : TableReader PartReader)
    (lt : i < length parts) (owned : List OwnedTable)
    (before : AllZip (IsTableOf is_limited) (map rest_of_table (take i parts)) (map named_of owned)) where
  -- one more part is a table
  pub part_more : (pushed : List OwnedTable) (names : Names)
      → pushed ≡ owned ++ record { architecture = (get_or parts i d).architecture; table = names } ∷ []
      → IsShort is_limited (rest_of (get_or parts i d).reader) → table_of (rest_of (get_or parts i d).reader) ≡ Ok names
      → AllZip (IsTableOf is_limited) (map rest_of_table (take (i + 1) parts)) (map named_of pushed)
  part_more pushed names added short stated =
      let last : OwnedTable = record { architecture = (get_or parts i d).architecture; table = names } in
      one_table_more rest_of_table parts i d lt (IsTableOf is_limited) owned pushed last before added
      (short, (refl, stated))

  -- one isn't
  pub no_part : (fault : VerifyFault) → IsNoTableOf is_limited (rest_of (get_or parts i d).reader) fault
      → HasNoTable is_limited (map rest_of_table parts) fault
  no_part fault refused = record {
    before = map rest_of_table (take i parts);
    text = rest_of_table (get_or parts i d);
    behind = map rest_of_table (drop (i + 1) parts);
    whole = texts_split rest_of_table parts i d lt;
    tables = map named_of owned;
    are_tables = before;
    why = refused;
  }

-- lists of which one is no table aren't counts of calls
pub no_counts : (before : List (Architecture × List ℕ)) (own : Architecture × List ℕ)
    (behind : List (Architecture × List ℕ)) (fault : TableFault) (counts : Tables)
    → table_of own.1 ≡ Err fault → AllZip SpellsTable (before ++ own ∷ behind) counts → ⊥
no_counts [] own behind fault [] refused each = each
no_counts [] own behind fault (table ∷ tables) refused each =
    let same : Ok table.1 ≡ Err fault = sym each.0.1 ∙ refused in cc
no_counts (text ∷ texts) own behind fault [] refused each = each
no_counts (text ∷ texts) own behind fault (table ∷ tables) refused each =
    no_counts texts own behind fault tables refused each.1

-- ---- texts of any length

-- what is a table is one however long texts may be
pub spelled : (is_limited : Bool) (texts : List (Architecture × List ℕ)) (tables : Tables)
    → AllZip (IsTableOf is_limited) texts tables → AllZip SpellsTable texts tables
spelled is_limited [] [] each = each
spelled is_limited [] (table ∷ tables) each = absurd each
spelled is_limited (text ∷ texts) [] each = absurd each
spelled is_limited (text ∷ texts) (table ∷ tables) each = (each.0.1, spelled is_limited texts tables each.1)

-- what is a table however long texts may be is one within a limit
pub limited : (is_limited : Bool) (texts : List (Architecture × List ℕ)) (tables : Tables)
    → AllZip SpellsTable texts tables → All (λ text. IsShort is_limited text.1) texts
    → AllZip (IsTableOf is_limited) texts tables
limited is_limited [] [] each short = each
limited is_limited [] (table ∷ tables) each short = absurd each
limited is_limited (text ∷ texts) [] each short = absurd each
limited is_limited (text ∷ texts) (table ∷ tables) each short = (
  (All-head (λ text. IsShort is_limited text.1) text texts short, each.0),
  limited is_limited texts tables each.1 (All-tail (λ text. IsShort is_limited text.1) text texts short),
)

-- why texts aren't loaded
pub cant_load : (by : Interpretation) (profile : List ℕ) (texts : List (Architecture × List ℕ)) (fault : VerifyFault)
    → HasNoTable false texts fault → CantLoadEach by profile texts fault
cant_load by profile texts (Table fault) none = λ other. (
  none.before,
  none.text,
  none.behind,
  none.whole,
  none.tables,
  spelled false none.before none.tables none.are_tables,
  none.why.1 other,
)
cant_load by profile texts (TableRead fault) none = absurd (let limited = none.why.0 in cc)
cant_load by profile texts (FilterRead fault) none = absurd none.why
cant_load by profile texts (Check fault) none = absurd none.why
cant_load by profile texts (Stack fault) none = absurd none.why
cant_load by profile texts (ProfileRead fault) none = absurd none.why
cant_load by profile texts (ProfileFault fault) none = absurd none.why
cant_load by profile texts Memory none = absurd none.why

-- texts of which one is no table aren't counts of calls
pub not_counts : (texts : List (Architecture × List ℕ)) (fault : VerifyFault) → fault ≢ Table faults.Memory
    → HasNoTable false texts fault → AreTables texts → ⊥
not_counts texts (Table fault) other none counts =
    no_counts none.before none.text none.behind fault counts.0 (none.why.1 (λ is. other (ap Table is)))
    (rw none.whole at counts.1)
not_counts texts (TableRead fault) other none counts = absurd (let limited = none.why.0 in cc)
not_counts texts (FilterRead fault) other none counts = none.why
not_counts texts (Check fault) other none counts = none.why
not_counts texts (Stack fault) other none counts = none.why
not_counts texts (ProfileRead fault) other none counts = none.why
not_counts texts (ProfileFault fault) other none counts = none.why
not_counts texts Memory other none counts = none.why

-- ---- the calls of the only table

-- what holds of the only table
pub of_only : (P : Tables → Type 0) (tables : List OwnedTable) (only : OwnedTable) → length tables ≡ 1
    → only ≡ get_or tables 0 only → P (named_of only ∷ []) → P (map named_of tables)
of_only P [] only count is holds = absurd (omega (arith, count))
of_only P (table ∷ []) only count is holds = subst (λ (own : OwnedTable). P (named_of own ∷ [])) is holds
of_only P (table ∷ second ∷ tables) only count is holds = absurd (omega (arith, count))

-- it, with its architecture
pub only_named : (tables : List OwnedTable) (default : OwnedTable) → length tables ≡ 1
    → map named_of tables ≡ named_of (get_or tables 0 default) ∷ []
only_named [] default count = absurd (omega (arith, count))
only_named (table ∷ []) default count = refl
only_named (table ∷ second ∷ tables) default count = absurd (omega (arith, count))

-- several tables, or none, have no calls that are compared
pub of_others : (comparison : Comparison) (of_each : Bool) (left : Behavior) (right : SideInput) (tables : List OwnedTable)
    (calls : Vec CallFinding) → length tables ≢ 1 → calls.items ≡ []
    → AreFindings comparison EachCall of_each left right (map named_of tables)
    (record { joint = Holds 0; calls = Some calls })
of_others comparison of_each left right [] calls several none = (calls, refl, none, refl)
of_others comparison of_each left right (table ∷ []) calls several none = absurd (several refl)
of_others comparison of_each left right (table ∷ second ∷ tables) calls several none = (calls, refl, none, refl)
