-- What the program is asked for by its words.
use Rattle.std.specs.Prelude.{◌≡◌, ◌≢◌, ◌⊎◌, ℕ, Bool, true, false, List, [], ◌∷◌, ◌++◌, codes, map, Option, Some, None, Result, Ok, Err}
use Rattle.clap.specs.Words.{Row}
use Rattle.scf_insn.specs.Words.{IsRecord}
use Rattle.scf_insn.specs.declared.architecture.Architecture.{Architecture}
use Rattle.scf_insn.specs.declared.record.CallRecord.{CallRecord}
use Rattle.scf_profile.specs.Scope.{IsInScope}
use Rattle.scf_profile.specs.declared.scope.Scope.TheVariants as scopes
use Rattle.scf_request.specs.declared.bundle.BundleForm.{BundleForm}
use Rattle.scf_request.specs.declared.bundle.BundleForm.TheVariants as forms
use Rattle.scf_request.specs.declared.request_fault.RequestFault.{RequestFault}
use Rattle.scf_request.specs.declared.request_fault.RequestFault.TheVariants.{Number, NoCommand, Flags, Reading, Range}
use Rattle.scf_request.specs.declared.request.Command.{Command}
use Rattle.scf_request.specs.declared.request.Command.TheVariants as commands
use Rattle.scf_request.specs.declared.request.Request.{Request}
use Rattle.scf_request.specs.declared.request.Scopes.{Scopes}
use Rattle.scf_request.specs.declared.request.Scopes.TheVariants.{AtOnce, EachCall}
use Rattle.scf_request.specs.Options.{AsksToCompare, NumberOption, call_options, choice_in, comparison_options, detail_in, excludes_walk, exploration_options, first_wrong, flag_names, form_of_profile, form_of_sides, has_range, is_given, number_in, numbers_of_comparison, numbers_of_record, reading_in, relation_flags, scope_flags}

pub data CommandName : Type 0 where
  Answers Ask Asm Check Compare Compile Decide Dis Run : CommandName

-- the words of each command: its own, those of its options, each with a number, whether it takes a reading, too, as
-- those on profiles do, and those of its flags
abbrev pub words_of_command : CommandName → List ℕ × List NumberOption × Bool × List (List ℕ)
words_of_command Answers = (
  codes "answers",
  exploration_options,
  true,
  codes "native" ∷ codes "differences" ∷ codes "beside" ∷ codes "architectures" ∷ codes "examples" ∷ [],
)
words_of_command Ask = (codes "ask", call_options, true, codes "architectures" ∷ [])
words_of_command Asm = (codes "asm", [], false, [])
words_of_command Check = (codes "check", [], false, [])
words_of_command Compare = (
  codes "compare",
  comparison_options,
  true,
  flag_names scope_flags ++ flag_names relation_flags ++ codes "beside" ∷ codes "architectures" ∷ [],
)
words_of_command Compile = (codes "compile", [], true, codes "architectures" ∷ codes "left-out" ∷ [])
words_of_command Decide = (codes "decide", call_options, false, codes "at" ∷ codes "path" ∷ [])
words_of_command Dis = (codes "dis", [], false, [])
words_of_command Run = (codes "run", call_options, false, codes "path" ∷ [])

abbrev pub command_word : CommandName → List ℕ
command_word name = (words_of_command name).0

-- the options that it reads: those of a comparison that `answers` lacks have no text
abbrev pub options_read : CommandName → List NumberOption
options_read Answers = comparison_options
options_read name = (words_of_command name).1

-- the name of a command, and the numbers of its options
abbrev pub name_and_numbers : Command → CommandName × List ℕ
name_and_numbers (commands.Answers comparison has_examples has_differences) =
    (Answers, numbers_of_comparison comparison)
name_and_numbers (commands.Ask call) = (Ask, numbers_of_record call)
name_and_numbers commands.Assemble = (Asm, [])
name_and_numbers commands.Check = (Check, [])
name_and_numbers (commands.Compare comparison) = (Compare, numbers_of_comparison comparison)
name_and_numbers (commands.Compile has_left_out) = (Compile, [])
name_and_numbers (commands.Decide call detail) = (Decide, numbers_of_record call)
name_and_numbers commands.List = (Dis, [])
name_and_numbers (commands.Run call has_path) = (Run, numbers_of_record call)

-- the flags of a command are given, and no other
abbrev pub HasFlags : List Row → Command → Type 0
HasFlags rows (commands.Answers comparison has_examples has_differences) = AsksToCompare rows comparison
    × (is_given rows (codes "examples") ≡ has_examples) × (is_given rows (codes "differences") ≡ has_differences)
    × (excludes_walk rows ≡ false)
HasFlags rows (commands.Compare comparison) = AsksToCompare rows comparison
HasFlags rows (commands.Compile has_left_out) = is_given rows (codes "left-out") ≡ has_left_out
HasFlags rows (commands.Decide call detail) = detail ≡ detail_in rows
HasFlags rows (commands.Run call has_path) = is_given rows (codes "path") ≡ has_path
HasFlags rows command = Unit {0}

-- The form of a command's bundle by its flags. None where they exclude each other.
abbrev pub form_in : CommandName → List Row → Option BundleForm
form_in Answers rows = form_of_sides rows
form_in Compare rows = form_of_sides rows
form_in Ask rows = Some (form_of_profile rows)
form_in Compile rows = Some (form_of_profile rows)
form_in name rows = Some forms.Profile

-- A word and the values of options spell a request: its command has this name, the options have its numbers, its flags
-- are given, and they say the form of its bundle and the reading of a profile.
pub record SpellRequest (word : List ℕ) (rows : List Row) (request : Request) : Type 0 where
  pub is_named : word ≡ command_word (name_and_numbers request.command).0
  pub numbers : map Some (name_and_numbers request.command).1
      ≡ map (number_in rows) (options_read (name_and_numbers request.command).0)
  pub flags : HasFlags rows request.command
  pub form : form_in (name_and_numbers request.command).0 rows ≡ Some request.form
  pub reading : reading_in rows ≡ Some request.reading

-- Some call record is one of these.
pub record HasRecord (IsOne : CallRecord → Type 0) : Type 0 where
  pub call : CallRecord
  pub is_record : IsRecord call
  pub is_one : IsOne call

-- Scopes have a record. A range of each architecture has one of one of them, since for which there are tables isn't
-- known before the input; of single calls it is for their table to say.
abbrev pub HaveRecord : BundleForm → Scopes → Type 0
HaveRecord forms.Architectures (AtOnce (scopes.Numbers each first last)) =
    (architecture : Architecture) × HasRecord (IsInScope (scopes.Numbers architecture first last))
HaveRecord form (AtOnce scope) = HasRecord (IsInScope scope)
HaveRecord form EachCall = Unit {0}

-- the records over which a command goes: those of a comparison, and all for another command
abbrev pub scopes_of : Command → Scopes
scopes_of (commands.Answers comparison has_examples has_differences) = comparison.scopes
scopes_of (commands.Compare comparison) = comparison.scopes
scopes_of command = AtOnce scopes.All

-- Flags of a comparison exclude each other: two of a group, and that of single calls a range.
abbrev pub AreExclusiveOfComparison : List Row → Type 0
AreExclusiveOfComparison rows = (choice_in rows scope_flags ≡ None) ⊎ (choice_in rows relation_flags ≡ None)
    ⊎ ((has_range rows ≡ true) × (choice_in rows scope_flags ≡ Some EachCall))

-- Flags of `answers` or of `compare` exclude each other, which those of other commands never do.
abbrev pub AreExclusive : CommandName → List Row → Type 0
AreExclusive Answers rows =
    AreExclusiveOfComparison rows ⊎ (form_of_sides rows ≡ None) ⊎ (excludes_walk rows ≡ true)
AreExclusive Compare rows = AreExclusiveOfComparison rows ⊎ (form_of_sides rows ≡ None)
AreExclusive name rows = ⊥

-- Why they spell no request: the first option of the command whose text is no number in its range; where there is none,
-- flags that exclude each other; no command; no reading; the request that they spell goes over no record.
abbrev pub SpellNone : List ℕ → List Row → RequestFault → Type 0
SpellNone word rows (Number fault) = (name : CommandName) × (word ≡ command_word name)
    × (first_wrong (options_read name) rows ≡ Some fault.name.now)
SpellNone word rows Flags = (name : CommandName) × (word ≡ command_word name)
    × (first_wrong (options_read name) rows ≡ None) × AreExclusive name rows
SpellNone word rows NoCommand = (name : CommandName) → word ≢ command_word name
SpellNone word rows Reading = reading_in rows ≡ None
SpellNone word rows Range = (request : Request) × SpellRequest word rows request
    × (HaveRecord request.form (scopes_of request.command) → ⊥)

-- What a command's word and the values of its options ask for, which goes over one record at least, or why for nothing.
abbrev pub AsksFor : Option (List ℕ × List Row) → Result Request RequestFault → Type 0
AsksFor None result = result ≡ Err NoCommand
AsksFor (Some asked) (Ok request) =
    SpellRequest asked.0 asked.1 request × HaveRecord request.form (scopes_of request.command)
AsksFor (Some asked) (Err fault) = SpellNone asked.0 asked.1 fault
