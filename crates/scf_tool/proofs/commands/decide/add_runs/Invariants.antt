use Rattle.scf_insn.specs.Words.{words_of}
use Rattle.scf_tool.proofs.Common.{List, string_bytes, take, ◌++◌, ◌≡◌, ℕ}
use Rattle.scf_tool.specs.internal.ShownRuns.{ShowsRuns}
use Rattle.scf_tool.proofs.commands.decide.add_runs.Given as goal

abbrev pub invariant-loop-filter : goal.invariant-loop-filter
invariant-loop-filter l = (runs : List ℕ) × ShowsRuns (take l.filter-index l.filters) (words_of l.call) runs
    × (string_bytes l.text ≡ string_bytes l.fn.text ++ runs)
