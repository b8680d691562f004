use Rattle.std.proofs.Common.{refl, rules}
use Rattle.scf_c.proofs.EndingLemmas.{default_is_none}
use Rattle.scf_c.proofs.answers.scf_answers.Goals as goal

pub returns : goal.returns
returns c = record {
  right = λ well. (
    c.in-Some.asked,
    c.in-Some.ensures,
    (
      c.in-Some-2.listed,
      rw c.in-Some-2.is at c.in-Ok.ensures.listed,
      refl,
      rw c.deref.ensures.value at c.hand_out.ensures,
      rw c.deref-2.ensures.value at c.hand_out-2.ensures,
    ),
    default_is_none _ (λ n is. search rules) c.default-2.result c.default-2.ensures,
  );
  wrong = search rules;
  by_fault = λ failed. absurd (failed refl);
  nothing = λ failed. absurd (failed refl);
}
