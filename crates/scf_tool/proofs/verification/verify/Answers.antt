use Rattle.scf_tool.proofs.Common.{inl, inr, refl, err_from_is_err_and}
use Rattle.scf_tool.proofs.verification.verify.Goals as goal

pub returns-in_err-loaded-clause-answer : goal.returns-in_err-loaded-clause-answer
returns-in_err-loaded-clause-answer g c =
    let p = err_from_is_err_and c.from_residual-in_err-loaded.result c.from_residual-in_err-loaded.ensures.1 in
    rw (p.1, p.2) (inr (
      c.in_ok-program.program,
      c.in_ok-program.ensures.filter,
      inr (c.in_ok-names.names, c.in_ok-names.ensures.table, inl (c.in_err-loaded.ensures.refused)),
    ))

pub returns-in_err-verdict-clause-answer : goal.returns-in_err-verdict-clause-answer
returns-in_err-verdict-clause-answer g c =
    let p = err_from_is_err_and c.from_residual-in_err-verdict.result c.from_residual-in_err-verdict.ensures.1 in
    rw (p.1, p.2) (inr (
      c.in_ok-program.program,
      c.in_ok-program.ensures.filter,
      inr (
        c.in_ok-names.names,
        c.in_ok-names.ensures.table,
        inr (c.in_ok-loaded.loaded, c.in_ok-loaded.ensures.loaded, refl),
      ),
    ))

pub returns-clause-answer : goal.returns-clause-answer
returns-clause-answer g c = record {
  insns = c.in_ok-program.program;
  names = c.in_ok-names.names;
  loaded = c.in_ok-loaded.loaded;
  is_filter = c.in_ok-program.ensures.filter;
  is_table = c.in_ok-names.ensures.table;
  is_loaded = c.in_ok-loaded.ensures.loaded;
  skipped = refl;
  other_architectures = refl;
  holds = c.in_ok-verdict.ensures.holds;
  within = c.in_ok-verdict.ensures.within;
  decided = c.in_ok-verdict.ensures.decided refl;
  by_masks = c.in_ok-verdict.ensures.by_masks refl;
}
