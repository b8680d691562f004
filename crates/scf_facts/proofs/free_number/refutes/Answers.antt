use Rattle.scf_facts.proofs.Common.{ℕ, rules, tests, arith, Bits, HasBits, SomeLack, cases_from_any, YieldsList-from_slice}
use Rattle.scf_facts.proofs.free_number.refutes.Goals as goal

pub returns-clause-some : goal.returns-clause-some
returns-clause-some c = λ none shown k d lt.
    let bits = c.args.bits in
    let each = rw none at (cases_from_any _ _ _ (λ (_ : Bits). ℕ)
    (λ other. HasBits bits bits.value → SomeLack bits other) c.any.ensures.ran
    (YieldsList-from_slice c.args.refuted.now cc) (λ _ _ _. 0) (λ x q k. search (rules, tests))) in
    each k d (omega arith) lt shown
