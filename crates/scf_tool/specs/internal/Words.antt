-- The names of the sides of a comparison in the lines.
use Rattle.std.specs.Prelude.{ℕ, List}
use Rattle.scf_tool.specs.declared.reporting.Words.{Words}

-- both
abbrev pub names_in : Words → List ℕ × List ℕ
names_in words = (words.left.now, words.right.now)
