use Rattle.scf_text.proofs.Common.{take, flat_map, TakesAll, piece_text}
use Rattle.scf_text.proofs.listing.write_pieces.Given as goal

abbrev pub invariant-loop-piece : goal.invariant-loop-piece
invariant-loop-piece g l =
    let contents = g.S.Sink.contents in
    let failures = g.S.Sink.failures in
    TakesAll (contents l.fn.sink) (flat_map (piece_text l.insn) (take l.piece-index l.pieces)) (contents l.sink)
    (failures l.fn.sink) (failures l.sink)
