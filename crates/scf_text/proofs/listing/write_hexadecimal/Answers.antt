use Rattle.scf_text.proofs.Common.{digits, false, [], ◌∷◌, err_from_is_err_and, fails_first, writes_then}
use Rattle.scf_text.proofs.listing.write_hexadecimal.Goals as goal

pub returns-in_err-write_whole : goal.returns-in_err-write_whole
returns-in_err-write_whole g c =
    let p = err_from_is_err_and c.from_residual.result c.from_residual.ensures.1 in
    rw p.1 (fails_first (digits 16 false c.args.number) c.in_err-write_whole.ensures)

pub returns : goal.returns
returns g c =
    writes_then g.S.Sink.contents g.S.Sink.failures _ _ (48 ∷ 120 ∷ []) _ _ _ c.in_ok-write_whole.ensures
    (rw c.from.ensures at c.write_numeral.ensures)
