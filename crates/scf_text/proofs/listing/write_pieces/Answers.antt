use Rattle.scf_text.proofs.Common.{err_from_is_err_and, piece_text, each_fails}
use Rattle.scf_text.proofs.listing.write_pieces.Goals as goal

pub returns-in_err-write_piece : goal.returns-in_err-write_piece
returns-in_err-write_piece g c =
    let p = err_from_is_err_and c.from_residual.result c.from_residual.ensures.1 in
    rw p.1 (each_fails (piece_text c.args.insn.now) c.args.pieces.now c.loop-piece.piece-index _
    c.loop-piece-test.true c.loop-piece.invariant c.in_err-write_piece.ensures)
