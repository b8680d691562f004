use Rattle.scf_compare.proofs.Common.{arith, Relation, NoMore, NoLess}
use Rattle.scf_compare.proofs.Relations.{related_here}
use Rattle.scf_compare.proofs.laws.no_more_and_no_less_is_one_disposition.Goals as goal

pub returns : goal.returns
returns c = λ filters p scope call filter profile none is_no_more is_no_less is_record in_scope of_words of_profile.
    let here = λ (relation : Relation). related_here relation filters p call filter profile none is_record in
    grind (arith, here NoMore, here NoLess)
