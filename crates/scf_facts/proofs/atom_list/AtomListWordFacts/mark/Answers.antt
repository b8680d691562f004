use Rattle.scf_facts.proofs.Common.{◌≡◌, List, arith, refl, Learned}
use Rattle.std.proofs.lemmas.Grind.{elements}
use Rattle.scf_facts.proofs.Levels.{opened}
use Rattle.scf_facts.proofs.atom_list.AtomListWordFacts.mark.Goals as goal

pub returns-clause-at_marks : goal.returns-clause-at_marks
returns-clause-at_marks c = λ index le.
    let facts = c.args.self.now in
    let same : c.in_ok-learned.learned.items ≡ facts.learned.items = grind (arith, elements) in
    rw (
      c.in_ok-push.ensures.items,
      opened {B = List Learned} (λ known. known.items) facts.saved.items facts.learned
          c.in_ok-learned.learned index same,
    ) (λ words. (λ h. h, λ h. h), refl, λ masks. (λ h. h, λ h. h))
