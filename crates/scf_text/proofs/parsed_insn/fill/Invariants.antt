use Rattle.scf_text.proofs.Common.{◌≡◌, List, ℕ, Option, Bor, FollowsBehind, drop, field_number, fill_by, words_in, others_in, parsed_view}
use Rattle.scf_text.proofs.parsed_insn.fill.Given as goal

abbrev pub invariant-loop-piece : goal.invariant-loop-piece
invariant-loop-piece l = record {
  fills : fill_by field_number (drop l.piece-index l.pieces) (words_in l.remaining) (parsed_view l.parsed)
      ≡ fill_by field_number l.pieces (words_in l.part) (parsed_view l.fn.parsed);
  others : others_in l.remaining ≡ others_in l.part;
  behind : (after : Option (Bor (List ℕ))) → FollowsBehind l.remaining 0 after → FollowsBehind l.part 0 after;
}
