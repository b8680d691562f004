-- The program's options and commands, as it defines them.
use Rattle.std.specs.Prelude.{◌≡◌, ℕ, Bool, List, [], ◌∷◌, ◌++◌, codes, fold, map, true, Some, None, if◌then◌else◌}
use Rattle.std.specs.List.{filter_map}
use Rattle.std.specs.Borrow.{Bor}
use Rattle.clap.specs.Words.{App, Row, Rule, Shape, Text, fault_of, is_simple_and_free, new_app, subcommand_of, with_subcommand}
use Rattle.scf_request.specs.declared.command_line.Definition.{Definition}
use Rattle.scf_request.specs.declared.options.NumberOption.{NumberOption as Kept}
use Rattle.scf_request.specs.Options.{NumberOption, is_given, number_in, reading_option}
use Rattle.scf_request.specs.CommandLine.{flag_rule, scf, shape_for, valued_rule}
use Rattle.scf_request.specs.Requests.{CommandName, HasFlags, command_word, name_and_numbers, options_read}
use Rattle.scf_request.specs.declared.request.Command.{Command}

abbrev pub option_of : Kept → NumberOption
option_of o = record { name = o.name.now; default = o.default; most = o.most }

-- flags and what they stand for
abbrev pub flags_in : {A : Type 0} → List (Bor (List ℕ) × A) → List (List ℕ × A)
flags_in group = map (λ flag. (flag.0.now, flag.1)) group

-- what the flags of a group stand for that are given
abbrev pub chosen_of : {A : Type 0} → List Row → List (List ℕ × A) → List A
chosen_of rows group = filter_map (λ flag. if is_given rows flag.0 then Some flag.1 else None) group

abbrev pub options_kept : List Kept → List NumberOption
options_kept = map option_of

-- the rules of options, and of a reading
abbrev pub option_rule : NumberOption → Rule
option_rule o = valued_rule o.name

abbrev pub rules_of_options : List NumberOption → Bool → List Rule
rules_of_options options takes_reading =
    map option_rule options ++ (if takes_reading then valued_rule reading_option ∷ [] else [])

-- a command of this name with these rules
abbrev pub command_of : Text → List Rule → App
command_of name rules = record { top = record (new_app name).top { rules = rules }; subs = [] }

-- the names of flags that are defined
abbrev pub names_of_flags : List (Bor (List ℕ) × Bor (List ℕ)) → List (List ℕ)
names_of_flags = map (λ flag. flag.0.now)

-- what a definition of a command comes to
abbrev pub shape_of : Definition → Shape
shape_of d = record (new_app d.name.now).top {
  rules = rules_of_options (options_kept d.options.now) d.takes_reading ++ map flag_rule (names_of_flags d.flags.now);
}

-- the program without its commands
abbrev pub bare : App
bare = record {
  top = record (new_app (codes "scf")).top { has_version = true; subcommand_required = true };
  subs = [];
}

-- the program with the commands of these definitions
abbrev pub program_of : List Definition → App
program_of definitions = fold with_subcommand bare (map shape_of definitions)

abbrev pub scf_shape : Shape
scf_shape = scf.top

-- the program with one of its commands
abbrev pub scf_with : CommandName → App
scf_with command = record { top = scf_shape; subs = shape_for command ∷ [] }

-- the word names a command, and this is its definition
abbrev pub IsNamed : Text → Definition → Type 0
IsNamed word definition =
    (command : CommandName) × (word ≡ command_word command) × (shape_of definition ≡ shape_for command)

-- The words come to the same by this definition as by the program's.
pub record ReadsAsProgram (app : App) (words : List Text) : Type 0 where
  pub is_free : is_simple_and_free app ≡ true
  pub asked : subcommand_of app words ≡ subcommand_of scf words
  pub faults : fault_of app words ≡ fault_of scf words

-- A word and the values of options spell a command: it has this name, the options have its numbers, and its flags are
-- given.
pub record SpellCommand (word : List ℕ) (rows : List Row) (command : Command) : Type 0 where
  pub is_named : word ≡ command_word (name_and_numbers command).0
  pub numbers : map Some (name_and_numbers command).1
      ≡ map (number_in rows) (options_read (name_and_numbers command).0)
  pub flags : HasFlags rows command
