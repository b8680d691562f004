-- The options of the program, and the numbers that they spell.
use Rattle.std.specs.Prelude.{◌≡◌, ◌&&◌, ◌||◌, ℕ, Bool, true, false, ◌-◌, ◌^◌, List, [], ◌∷◌, codes, bytes_eq, map, find, nat_le, not, is_none, is_some, Option, Some, None, Result, Ok, Err, option_map, if◌then◌else◌}
use Rattle.std.specs.List.{filter_map}
use Rattle.std.specs.Option.{option_and_then, option_map_or}
use Rattle.clap.specs.Words.{Row, first_of}
use Rattle.scf_insn.specs.declared.record.CallRecord.{CallRecord}
use Rattle.scf_insn.specs.declared.architecture.Architecture.TheVariants.{X8664}
use Rattle.scf_insn.specs.Kernel.{audit_arch_x86_64}
use Rattle.scf_insn.specs.Numbers.{number_of}
use Rattle.scf_profile.specs.declared.reading.Reading.{Reading}
use Rattle.scf_profile.specs.declared.reading.Reading.TheVariants.{Strict, Runc, Crun, Sandbox}
use Rattle.scf_profile.specs.declared.relation.Relation.{Relation}
use Rattle.scf_profile.specs.declared.relation.Relation.TheVariants.{Same, NoMore, NoLess, SameDisposition}
use Rattle.scf_request.specs.declared.bundle.BundleForm.{BundleForm}
use Rattle.scf_request.specs.declared.bundle.BundleForm.TheVariants.{Architectures, Beside, Profile}
use Rattle.scf_request.specs.declared.options.NumberFault.{NumberFault}
use Rattle.scf_request.specs.declared.request.Comparison.{Comparison}
use Rattle.scf_request.specs.declared.request.Detail.{Detail}
use Rattle.scf_request.specs.declared.request.Detail.TheVariants.{Answer, Instruction, Paths}
use Rattle.scf_request.specs.declared.request.Scopes.{Scopes}
use Rattle.scf_profile.specs.declared.scope.Scope.{Scope}
use Rattle.scf_profile.specs.declared.scope.Scope.TheVariants as scopes
use Rattle.scf_request.specs.declared.request.Scopes.TheVariants.{AtOnce, EachCall}

-- An option that takes a number: its name, the number that it has without a text, and the greatest that it may have.
pub record NumberOption : Type 0 where
  pub name : List ℕ
  pub default : ℕ
  pub most : ℕ

-- the number of an option by its text, and None where the text is no number in its range
abbrev pub number_by : NumberOption → Option (List ℕ) → Option ℕ
number_by o None = Some o.default
number_by o (Some text) = option_and_then (λ n. if nat_le n o.most then Some n else None) (number_of text)

-- the number of an option among the values that a command line gives
abbrev pub number_in : List Row → NumberOption → Option ℕ
number_in rows o = number_by o (first_of o.name rows)

-- an option whose number has so many bits
abbrev pub option_of_bits : ℕ → List ℕ → ℕ → NumberOption
option_of_bits bits name default = record { name = name; default = default; most = 2 ^ bits - 1 }

-- the options of a call record, in the order of its fields; without one the architecture is x86-64's
abbrev pub call_options : List NumberOption
call_options =
    option_of_bits 32 (codes "nr") 0 ∷ option_of_bits 32 (codes "arch") audit_arch_x86_64
    ∷ map (λ name. option_of_bits 64 name 0)
    (codes "ip" ∷ codes "a0" ∷ codes "a1" ∷ codes "a2" ∷ codes "a3" ∷ codes "a4" ∷ codes "a5" ∷ [])

-- the numbers of a record, in the order of its fields
abbrev pub numbers_of_record : CallRecord → List ℕ
numbers_of_record call = call.nr ∷ call.arch ∷ call.ip ∷ call.args

-- the name of the first of some options whose text is no number in its range
abbrev pub first_wrong : List NumberOption → List Row → Option (List ℕ)
first_wrong options rows = option_map (λ o. o.name) (find (λ o. is_none (number_in rows o)) options)

-- What the options of a call record spell: the record of their numbers, or the first that spells none.
abbrev pub SpellsCall : List Row → Result CallRecord NumberFault → Type 0
SpellsCall rows (Ok call) = map Some (numbers_of_record call) ≡ map (number_in rows) call_options
SpellsCall rows (Err fault) = first_wrong call_options rows ≡ Some fault.name.now

-- the options of the ends of a range of numbers, which without them are those of all numbers
abbrev pub range_options : List NumberOption
range_options = option_of_bits 32 (codes "nr-from") 0 ∷ option_of_bits 32 (codes "nr-to") (2 ^ 32 - 1) ∷ []

-- the options of a comparison: the most steps of one, and of those of single calls together, the most splits of one,
-- and the ends of a range
abbrev pub comparison_options : List NumberOption
comparison_options =
    option_of_bits 64 (codes "limit") 1000000 ∷ option_of_bits 64 (codes "total-limit") 10000000
    ∷ option_of_bits 64 (codes "splits") 10000 ∷ range_options

-- the ends of the range over which a comparison goes
abbrev pub numbers_of_range : Scopes → List ℕ
numbers_of_range (AtOnce (scopes.Numbers architecture first last)) = first ∷ last ∷ []
numbers_of_range over = 0 ∷ (2 ^ 32 - 1) ∷ []

-- the numbers of a comparison, in the order of its options
abbrev pub numbers_of_comparison : Comparison → List ℕ
numbers_of_comparison comparison =
    comparison.limits.each ∷ comparison.limits.total ∷ comparison.limits.splits ∷ numbers_of_range comparison.scopes

-- the options of a walk over the records of a scope: its most steps, and the ends of a range
abbrev pub exploration_options : List NumberOption
exploration_options = option_of_bits 64 (codes "limit") 1000000 ∷ range_options

-- the option of the reading of a profile, and the readings by their names; without it the reading is by the words
abbrev pub reading_option : List ℕ
reading_option = codes "reading"

abbrev pub readings : List (List ℕ × Reading)
readings =
    (codes "strict", Strict) ∷ (codes "runc", Runc) ∷ (codes "crun", Crun) ∷ (codes "sandbox", Sandbox) ∷ []

abbrev pub reading_named : List ℕ → Option Reading
reading_named name = option_map (λ reading. reading.1) (find (λ reading. bytes_eq name reading.0) readings)

abbrev pub reading_in : List Row → Option Reading
reading_in rows = option_map_or reading_named (first_of reading_option rows) (Some Strict)

-- A flag is given where its name has the text `true`.
abbrev pub is_given : List Row → List ℕ → Bool
is_given rows name = option_map_or (λ text. bytes_eq text (codes "true")) (first_of name rows) false

-- ---- flags of which at most one may be given

-- the only one of several, what stands without any, or None where they are more than one
abbrev pub one_of : {A : Type 0} → A → List A → Option A
one_of without [] = Some without
one_of without (chosen ∷ []) = Some chosen
one_of without (first ∷ second ∷ more) = None

-- what a group comes to, of what stands without a flag and of its flags: None where more than one of them is given
abbrev pub choice_in : {A : Type 0} → List Row → A × List (List ℕ × A) → Option A
choice_in rows group =
    one_of group.0 (filter_map (λ flag. if is_given rows flag.0 then Some flag.1 else None) group.1)

-- over which calls a comparison goes: all without a flag
abbrev pub scope_flags : Scopes × List (List ℕ × Scopes)
scope_flags = (AtOnce scopes.All, (codes "native", AtOnce scopes.Native) ∷ (codes "calls", EachCall) ∷ [])

-- by which relation it goes: by the same answers without a flag
abbrev pub relation_flags : Relation × List (List ℕ × Relation)
relation_flags =
    (Same, (codes "no-more", NoMore) ∷ (codes "no-less", NoLess) ∷ (codes "disposition", SameDisposition) ∷ [])

abbrev pub flag_names : {A : Type 0} → A × List (List ℕ × A) → List (List ℕ)
flag_names group = map (λ flag. flag.0) group.1

-- an end of a range is given
abbrev pub has_range : List Row → Bool
has_range rows = is_some (first_of (codes "nr-from") rows) || is_some (first_of (codes "nr-to") rows)

-- A comparison goes over these calls: those of a range that is given, which stands with or without the flag of native
-- calls, and without one those of the flags.
abbrev pub SelectsCalls : List Row → Scopes → Type 0
SelectsCalls rows (AtOnce (scopes.Numbers architecture first last)) =
    (architecture ≡ X8664) × (has_range rows ≡ true) × (scope : Scope)
    × (choice_in rows scope_flags ≡ Some (AtOnce scope))
SelectsCalls rows over = (has_range rows ≡ false) × (choice_in rows scope_flags ≡ Some over)

-- The options and flags ask for a comparison over these calls and by this relation.
pub record AsksToCompare (rows : List Row) (comparison : Comparison) : Type 0 where
  pub scopes : SelectsCalls rows comparison.scopes
  pub relation : choice_in rows relation_flags ≡ Some comparison.relation

-- what the flags ask `decide` to print
abbrev pub detail_in : List Row → Detail
detail_in rows =
    if is_given rows (codes "path") then Paths else (if is_given rows (codes "at") then Instruction else Answer)

-- Flags exclude a walk: that of other filters one without that of differences, and a range one with those of
-- architectures and of differences.
abbrev pub excludes_walk : List Row → Bool
excludes_walk rows =
    (is_given rows (codes "beside") && not (is_given rows (codes "differences")))
    || (is_given rows (codes "architectures") && is_given rows (codes "differences") && has_range rows)

-- the form of the bundle of a profile alone
abbrev pub form_of_profile : List Row → BundleForm
form_of_profile rows = if is_given rows (codes "architectures") then Architectures else Profile

-- That of two sides. None where the flag of architectures stands with that of other filters or of native calls.
abbrev pub form_of_sides : List Row → Option BundleForm
form_of_sides rows =
    if is_given rows (codes "architectures")
    then (if is_given rows (codes "beside") || is_given rows (codes "native") then None else Some Architectures)
    else Some (if is_given rows (codes "beside") then Beside (is_given rows (codes "calls")) else Profile)
