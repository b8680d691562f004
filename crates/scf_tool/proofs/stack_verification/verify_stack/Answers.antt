use Rattle.scf_tool.proofs.Common.{inl, inr, refl, err_from_is_err_and}
use Rattle.scf_tool.proofs.stack_verification.verify_stack.Goals as goal

pub returns-in_err-loaded-clause-answer : goal.returns-in_err-loaded-clause-answer
returns-in_err-loaded-clause-answer g c =
    let p = err_from_is_err_and c.from_residual-in_err-loaded.result c.from_residual-in_err-loaded.ensures.1 in
    let refused = c.in_err-loaded.ensures.refused in
    rw (p.1, p.2) (inr (_, c.in_ok-stack.ensures.stack, inr (_, c.in_ok-names.ensures.table, inl refused)))

pub returns-in_err-verdict-clause-answer : goal.returns-in_err-verdict-clause-answer
returns-in_err-verdict-clause-answer g c =
    let p = err_from_is_err_and c.from_residual-in_err-verdict.result c.from_residual-in_err-verdict.ensures.1 in
    let loaded = c.in_ok-loaded.ensures.loaded in
    rw (p.1, p.2) (inr (_, c.in_ok-stack.ensures.stack, inr (_, c.in_ok-names.ensures.table, inr (_, loaded, refl))))

pub returns-clause-answer : goal.returns-clause-answer
returns-clause-answer g c = record {
  stack = c.in_ok-stack.stack;
  names = c.in_ok-names.names;
  loaded = c.in_ok-loaded.loaded;
  has_stack = c.in_ok-stack.ensures.stack;
  is_table = c.in_ok-names.ensures.table;
  is_loaded = c.in_ok-loaded.ensures.loaded;
  is_left_out = refl;
  compared = record {
    holds = c.in_ok-verdict.ensures.holds;
    within = c.in_ok-verdict.ensures.within;
    decided = c.in_ok-verdict.ensures.decided refl;
    by_masks = c.in_ok-verdict.ensures.by_masks refl;
  };
}
