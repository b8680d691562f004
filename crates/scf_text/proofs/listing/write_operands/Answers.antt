use Rattle.scf_text.proofs.Common.{sym, ◌∙◌, ◌≡◌, false, [], ◌∷◌, List, Insn, Piece, arith, eqb, flat_map, length, nat_tests, err_from_is_err_and, operands_text, piece_text, fails_first, writes_then}
use Rattle.std.proofs.lemmas.Grind.{common_steps}
use Rattle.scf_text.proofs.listing.write_operands.Goals as goal

operands_some : (i : Insn) (ps : List Piece) → eqb (length ps) 0 ≡ false
    → operands_text i ps ≡ 32 ∷ flat_map (piece_text i) ps
operands_some i ps h = grind (arith, common_steps, nat_tests)

pub returns-in_err-write_whole : goal.returns-in_err-write_whole
returns-in_err-write_whole g c =
    let p = err_from_is_err_and c.from_residual.result c.from_residual.ensures.1 in
    rw (p.1, operands_some c.args.insn.now c.args.pieces.now (sym c.is_empty.ensures ∙ c.if-is_empty.false))
    (fails_first (flat_map (piece_text c.args.insn.now) c.args.pieces.now) c.in_err-write_whole.ensures)

pub returns : goal.returns
returns g c =
    rw (operands_some c.args.insn.now c.args.pieces.now (sym c.is_empty.ensures ∙ c.if-is_empty.false))
    (writes_then g.S.Sink.contents g.S.Sink.failures _ _ (32 ∷ []) _ _ _ c.in_ok-write_whole.ensures
    c.write_pieces.ensures)
