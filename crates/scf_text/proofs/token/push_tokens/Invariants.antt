use Rattle.scf_text.proofs.Common.{◌≡◌, ◌≢◌, ◌+◌, ◌++◌, [], length, lexemes_from, lexemes}
use Rattle.scf_text.proofs.token.push_tokens.Given as goal

abbrev pub invariant-loop-token : goal.invariant-loop-token
invariant-loop-token l = record {
  index : l.at + length l.remaining ≡ l.start + length l.part;
  so_far : lexemes l.tokens.items ++ lexemes_from l.at l.remaining ≡ lexemes l.fn.tokens.items ++ lexemes_from l.start l.part;
  some : lexemes_from l.at l.remaining ≢ [] → lexemes_from l.start l.part ≢ [];
}

abbrev pub decreases-loop-token : goal.decreases-loop-token
decreases-loop-token l = length l.remaining
