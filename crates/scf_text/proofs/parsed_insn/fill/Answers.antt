use Rattle.scf_text.proofs.Common.{sym, ◌∙◌, refl, drop_more, Len}
use Rattle.scf_text.proofs.parsed_insn.fill.Goals as goal

pub returns-in-End-clause-fills : goal.returns-in-End-clause-fills
returns-in-End-clause-fills c =
    let more = drop_more c.args.pieces.now c.loop-piece.piece-index Len c.loop-piece-test.true in
    sym c.loop-piece.invariant.fills ∙ rw (more, c.in-End.ensures.words.0) refl
