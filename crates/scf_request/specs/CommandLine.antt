-- The command line of the program, as its reader sees it.
use Rattle.std.specs.Prelude.{ℕ, true, false, List, [], ◌∷◌, ◌++◌, codes, map, Some, if◌then◌else◌}
use Rattle.clap.specs.declared.builder.action.ArgAction.TheVariants.{SetTrue}
use Rattle.clap.specs.Words.{App, Rule, Shape, new_app, new_rule}
use Rattle.scf_request.specs.Options.{reading_option}
use Rattle.scf_request.specs.Requests.{CommandName, command_word, words_of_command}
use Rattle.scf_request.specs.Requests.CommandName.{Answers, Ask, Asm, Check, Compare, Compile, Decide, Dis, Run}

-- an option takes one value, behind its name and two dashes
abbrev pub valued_rule : List ℕ → Rule
valued_rule name = record (new_rule name) { long = Some name; value_names = 1 }

-- a flag takes none
abbrev pub flag_rule : List ℕ → Rule
flag_rule name = record (new_rule name) { long = Some name; action = Some SetTrue }

-- the rules of a command: those of its options, of a reading, if it takes one, and of its flags
abbrev pub shape_for : CommandName → Shape
shape_for command = record (new_app (command_word command)).top {
  rules = (map (λ o. valued_rule o.name) (words_of_command command).1
      ++ (if (words_of_command command).2 then valued_rule reading_option ∷ [] else []))
      ++ map flag_rule (words_of_command command).3;
}

-- a command is named, and there is `--version`
abbrev pub scf : App
scf = record {
  top = record (new_app (codes "scf")).top { is_leaf = false; has_version = true; subcommand_required = true };
  subs = map shape_for (Check ∷ Run ∷ Decide ∷ Dis ∷ Asm ∷ Compile ∷ Compare ∷ Ask ∷ Answers ∷ []);
}
