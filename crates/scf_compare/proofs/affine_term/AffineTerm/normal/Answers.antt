use Rattle.scf_compare.proofs.Common.{◌∙◌}
use Rattle.scf_compare.proofs.affine_term.AffineTerm.normal.Goals as goal

pub returns-then-term-clause-number : goal.returns-then-term-clause-number
returns-then-term-clause-number c = λ words.
    c.with_odd_factor.ensures.number words ∙ c.reduced-term.ensures.number words

pub returns-clause-number : goal.returns-clause-number
returns-clause-number c = λ words.
    c.with_odd_factor.ensures.number words ∙ c.reduced-term.ensures.number words ∙ c.turned.ensures.number words
    ∙ c.reduced.ensures.number words
