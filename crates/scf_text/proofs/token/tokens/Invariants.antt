use Rattle.scf_text.proofs.Common.{◌≡◌, ◌+◌, ◌++◌, length, lexemes_of_lines, lines_of, tokens_of, lexemes}
use Rattle.scf_text.proofs.token.tokens.Given as goal

abbrev pub invariant-lines : goal.invariant-lines
invariant-lines l = record {
  index : l.start + length l.remaining ≡ length l.text;
  so_far : lexemes l.tokens.items ++ lexemes_of_lines l.start (lines_of l.remaining) ≡ tokens_of l.text;
}

abbrev pub decreases-lines : goal.decreases-lines
decreases-lines l = length l.remaining
