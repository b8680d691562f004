use Rattle.scf_facts.proofs.StoreLaws.{allows_all, nothing_refuted}
use Rattle.scf_facts.proofs.snapshot.Snapshot.new.Goals as goal

pub returns-clause-all : goal.returns-clause-all
returns-clause-all c = λ words.
    let items = c.in_ok-from_elem.ensures.items_if_clones_equal (λ set same. same) in
    let others = c.in_ok-others.ensures.ok in
    let copy = c.in_ok-clone.ensures.cases in
    let all = allows_all 16 words in (
      λ allowed. all.0 (rw (others, items, copy, c.in_ok-number.ensures, c.in_ok-new.ensures) at allowed),
      λ is. rw (others, items, copy, c.in_ok-number.ensures, c.in_ok-new.ensures) (all.1 is),
    )

pub returns-clause-among : goal.returns-clause-among
returns-clause-among c = λ masks.
    let items = c.in_ok-from_elem.ensures.items_if_clones_equal (λ set same. same) in
    let others = c.in_ok-others.ensures.ok in
    let copy = c.in_ok-clone.ensures.cases in
    rw (others, items, copy, c.in_ok-number.ensures, c.in_ok-new.ensures) (nothing_refuted 16 masks)
