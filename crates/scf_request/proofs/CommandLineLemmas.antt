-- The command line, as its reader sees it.
use Rattle.scf_request.proofs.Common.{◌≡◌, ◌&&◌, ◌∙◌, Bool, true, false, not, List, [], ◌∷◌, ◌++◌, Option, Some, ◌<◌, Answers, append-nil, append_assoc, arith, get_or, length, map, option_map, refl, sym, ap, ap₂, and_parts, not-true, find, fold, is_some, option_map_or, built_fault, check_fault, defaults_fault, entered_fault, level_fault, settle_fault, turn_fault, walk_fault, Kinds, or_else, built, entered, inherited, built_leaf, label_of, marked_built, names_of, rows_at, with_leaf_noted, Rule, Walk, answers_to, finished, idle, nothing_held, settled, stop_after, walk, walk_from, walked, AddsSubcommand, App, Shape, app_of, is_simple_and_free, with_subcommand, Command, clap_on_literals, Asked, command_word, scf, scf_shape, shape_for, ReadsAsProgram, scf_with, take, ◌+◌, ℕ, bare, program_of, shape_of, map_more}
use Rattle.std.proofs.lemmas.List.Sums.{fold_push}
use Rattle.scf_request.specs.declared.command_line.Definition.{Definition}
use Rattle.clap.specs.Walk.{Names, Text}

third : (a b g further : Bool) → (a && (not b && (not g && further))) ≡ true → g ≡ false
third a b g further h = grind (arith, and_parts, not-true)

-- one more command
pub one_more_command : (old sub new : Command) (before : App) (shape : Shape) → AddsSubcommand old sub new
    → app_of old ≡ before → app_of sub ≡ record { top = shape; subs = [] } → shape.is_plain ≡ true
    → app_of new ≡ with_subcommand before shape
one_more_command old sub new before shape h1 h2 h3 h4 = grind (arith, third)

-- the command of the next definition
pub program_more : (definitions : List Definition) (i : ℕ) (d : Definition) → i < length definitions
    → (before : App) → before ≡ program_of (take i definitions)
    → with_subcommand before (shape_of (get_or definitions i d)) ≡ program_of (take (i + 1) definitions)
program_more definitions i d lt before is =
    let shape = shape_of (get_or definitions i d) in
    ap (λ (app : App). with_subcommand app shape) is
    ∙ sym (ap (λ (shapes : List Shape). fold with_subcommand bare shapes) (map_more shape_of definitions i d lt)
    ∙ fold_push with_subcommand bare (map shape_of (take i definitions)) shape)

-- the program with one command
pub alone : (command : Asked) (definition : Definition) → shape_of definition ≡ shape_for command
    → program_of (definition ∷ []) ≡ scf_with command
alone command definition is = ap (λ (shape : Shape). with_subcommand bare shape) is

scf_is_free : is_simple_and_free scf ≡ true
unfolding clap_on_literals
scf_is_free = refl

-- ---- the words behind a command's

-- where a walk stands that has met a command, with these words behind it
abbrev stopped_at : Text → List Text → Walk
stopped_at name behind = record {
  held = nothing_held;
  waiting = idle;
  position = 1;
  is_trailing = false;
  stopped = Some (name, behind);
}

-- it takes each further word for the command
walk_behind : (rules : List Rule) (names : Names) (name : Text) (before words : List Text)
    → fold (walked rules names) (stopped_at name before) words ≡ stopped_at name (before ++ words)
unfolding walked
walk_behind rules names name before [] = ap (stopped_at name) (sym (append-nil before))
walk_behind rules names name before (word ∷ words) =
    walk_behind rules names name (before ++ word ∷ []) words
    ∙ ap (stopped_at name) (append_assoc before (word ∷ []) words)

no_fault_behind : (s : Shape) (names : Names) (name : Text) (before words : List Text)
    → walk_fault s names (stopped_at name before) words ≡ []
unfolding walk_fault walked
no_fault_behind s names name before [] = refl
no_fault_behind s names name before (word ∷ words) = no_fault_behind s names name (before ++ word ∷ []) words

-- a word enters this one of the commands of a built definition
record Enters (a : App) (word : Text) (leaf : Shape) : Type 0 where
  step : walked a.top.rules (names_of a) (walk_from nothing_held) word ≡ stopped_at word []
  fault : turn_fault a.top (names_of a) (walk_from nothing_held) word ≡ []
  is_leaf : find (λ s. answers_to word (label_of s)) a.subs ≡ Some leaf

walk_of : (a : App) (word : Text) (leaf : Shape) (words : List Text) → Enters a word leaf
    → walk a.top.rules (names_of a) nothing_held (word ∷ words) ≡ stopped_at word words
walk_of a word leaf words h = grind (arith, walk_behind)

entered_rows : (a : App) (word : Text) (leaf : Shape) (words : List Text) → Enters a word leaf
    → entered a (stop_after a.top.rules (names_of a) (word ∷ words)) ≡ Some (rows_at leaf words)
entered_rows a word leaf words e =
    ap (λ (w : Walk). entered a w.stopped) (walk_of a word leaf words e)
    ∙ ap (option_map (λ (s : Shape). rows_at s words)) e.is_leaf

-- the faults of the command on the words behind it, and then those of the program's own options, of which none is given
abbrev faults_behind : Shape → Option Shape → List Text → Kinds
faults_behind top leaf words =
    or_else (option_map_or (λ s. level_fault s [] nothing_held words false []) leaf [])
    (or_else (settle_fault top.rules top.args_override_self nothing_held)
    (or_else (defaults_fault (settled top.rules nothing_held).rows top.rules)
    (check_fault top (finished top.rules nothing_held)
    (is_some (option_map (λ (s : Shape). rows_at s words) leaf)))))

entered_faults : (a : App) (word : Text) (leaf : Shape) (words : List Text) → Enters a word leaf
    → built_fault a nothing_held (word ∷ words) ≡ faults_behind a.top (Some leaf) words
unfolding walk_fault
entered_faults a word leaf words e =
    let none : walk_fault a.top (names_of a) (walk_from nothing_held) (word ∷ words) ≡ [] =
    ap₂ or_else e.fault (ap (λ (w : Walk). walk_fault a.top (names_of a) w words) e.step
    ∙ no_fault_behind a.top (names_of a) word [] words) in
    let behind : Kinds → Walk → Kinds = λ kinds w. or_else kinds (or_else (entered_fault a w.stopped)
    (or_else (settle_fault a.top.rules a.top.args_override_self w.held)
    (or_else (defaults_fault (settled a.top.rules w.held).rows a.top.rules)
    (check_fault a.top (finished a.top.rules w.held) (is_some (entered a w.stopped)))))) in
    ap₂ behind none (walk_of a word leaf words e)
    ∙ ap (λ (leaf : Option Shape). faults_behind a.top leaf words) e.is_leaf

-- ---- definitions by which the words come to the same as by the program's

pub reads_whole : (words : List Text) → ReadsAsProgram scf words
reads_whole words = record { is_free = scf_is_free; asked = refl; faults = refl }

abbrev leaf_of : Asked → Shape
leaf_of command = built_leaf (inherited (with_leaf_noted (marked_built scf_shape)) (shape_for command))

enters_scf : (command : Asked) → Enters (built scf) (command_word command) (leaf_of command)
unfolding clap_on_literals
enters_scf Answers = grind arith
enters_scf command = grind arith

enters_alone : (command : Asked) → Enters (built (scf_with command)) (command_word command) (leaf_of command)
unfolding clap_on_literals
enters_alone Answers = grind arith
enters_alone command = grind arith

with_is_free : (command : Asked) → is_simple_and_free (scf_with command) ≡ true
unfolding clap_on_literals
with_is_free Answers = refl
with_is_free command = refl

-- words that begin with a command's come to the same by the definition that has that command alone
pub reads_with : (command : Asked) (name : Text) (words : List Text)
    → ReadsAsProgram (scf_with command) (name ∷ command_word command ∷ words)
reads_with command name words = record {
  is_free = with_is_free command;
  asked = entered_rows (built (scf_with command)) (command_word command) (leaf_of command) words (enters_alone command)
      ∙ sym (entered_rows (built scf) (command_word command) (leaf_of command) words (enters_scf command));
  faults = entered_faults (built (scf_with command)) (command_word command) (leaf_of command) words
      (enters_alone command)
      ∙ sym (entered_faults (built scf) (command_word command) (leaf_of command) words (enters_scf command));
}

-- the word behind the first
pub behind_first : {A : Type 0} (f : A → Text) (words : List A) (word : A) → 1 < length words
    → word ≡ get_or words 1 word → (name : Text) × (behind : List Text) × (map f words ≡ name ∷ f word ∷ behind)
behind_first f [] word lt is = absurd (omega arith)
behind_first f (name ∷ []) word lt is = absurd (omega arith)
behind_first {A} f (name ∷ second ∷ further) word lt is =
    (f name, map f further, ap (λ (x : A). f name ∷ f x ∷ map f further) (sym is))
