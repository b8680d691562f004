-- The headline follows from what verdicts claim, since a stack and a profile have one answer each to a call record.
use Rattle.scf_compare.proofs.Common.{arith, words_of, run_length, runs_safely}
use Rattle.scf_compare.proofs.Relations.{related_here}
use Rattle.scf_compare.proofs.laws.headline.Goals as goal

pub returns : goal.returns
returns c = record {
  every_run_ends = λ insns call is_filter is_record.
      (runs_safely insns (words_of call) is_filter.valid is_filter.stored, grind (arith, run_length));
  same_is_true = grind (arith, related_here);
  differs_is_shown = grind arith;
}
