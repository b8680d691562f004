-- The lines of the runs of filters.
use Rattle.std.specs.Prelude.{◌≡◌, ℕ, List}
use Rattle.std.specs.List.{AllZip, flat_map}
use Rattle.scf_insn.specs.declared.insn.Insn.{Insn}
use Rattle.scf_machine.specs.Path.{IsPathOf}
use Rattle.scf_tool.specs.Lines.{traced_text}

-- those of the runs over a record, one for each filter, whose ways are shown
abbrev pub ShowsRuns : List (List Insn) → List ℕ → List ℕ → Type 0
ShowsRuns stack words text = (runs : List (ℕ × List ℕ))
    × AllZip (λ filter run. IsPathOf filter words run.0 run.1) stack runs
    × (text ≡ flat_map (λ run. traced_text run.0 run.1) runs)
