use Rattle.scf_compare.proofs.Common.{arith, common_steps}
use Rattle.scf_compare.proofs.AffineTerms.{last_fits, last_past, least_fits, none_within, quotient_within, to_most}
use Rattle.scf_compare.proofs.affine_term.AffineTerm.is_within.Goals as goal
use Rattle.scf_compare.proofs.affine_term.AffineTerm.is_within.Goals.{then-high-most, else-high-most}

pub returns-clause-decides : goal.returns-clause-decides
returns-clause-decides c = λ words is.
    grind (arith, common_steps, c.is_sum_within.ensures.decides, to_most, quotient_within)

pub returns-then-low-most-clause-decides : goal.returns-then-low-most-clause-decides
returns-then-low-most-clause-decides c = grind (arith, common_steps, none_within)

pub overflow_mul-last : goal.overflow_mul-last
overflow_mul-last c = omega (arith, last_fits c.args.self.divisor c.args.high c.requires.term.some c.if-high-most.false)

pub overflow_add-last : goal.overflow_add-last
overflow_add-last c =
    record { fits = last_fits c.args.self.divisor c.args.high c.requires.term.some c.if-high-most.false }

pub overflow_mul-low : goal.overflow_mul-low
overflow_mul-low c =
    record { fits = least_fits c.args.self.divisor c.args.low c.requires.term.some c.if-low-most.false }

pub is_sum_within-requires-clause-some : goal.is_sum_within-requires-clause-some
is_sum_within-requires-clause-some c =
    let d = c.args.self.divisor in
    elim c.if-high-most.branch [
      | then-high-most w ↦ rw w.last-is (omega (arith, least_fits d c.args.low c.requires.term.some c.if-low-most.false))
      | else-high-most w ↦ rw w.last-is (last_past d c.args.low c.args.high c.requires.some)
    ]
