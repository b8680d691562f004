use Rattle.scf_facts.proofs.Common.{◌≡◌, answer_at}
use Rattle.scf_facts.proofs.StoreLaws.{allows_set, among_set, exact_set, read}
use Rattle.scf_facts.proofs.snapshot.Snapshot.learn.Goals as goal

pub returns-clause-learned : goal.returns-clause-learned
returns-clause-learned c = λ words.
    let known = read c.args.self.now c.word-word.result _ c.word.ensures.word in
    rw (c.in_ok-replace.ensures.replaced, c.in_ok-new.ensures, ← c.word-word.ensures) (allows_set _ _ _ known.0 known.1
    c.in_ok-set.set (λ x. answer_at c.args.atom x ≡ c.args.holds) c.in_ok-set.ensures.learned words)

pub returns-clause-exact : goal.returns-clause-exact
returns-clause-exact c = λ keeps all.
    let known = read c.args.self.now c.word-word.result _ c.word.ensures.word in
    rw (c.in_ok-replace.ensures.replaced, c.in_ok-new.ensures) (exact_set _ _ _ known.0 known.1 c.in_ok-set.set
    (c.in_ok-set.ensures.exact keeps) all)

pub returns-clause-among : goal.returns-clause-among
returns-clause-among c = λ masks keeps all.
    let known = read c.args.self.now c.word-word.result _ c.word.ensures.word in
    rw (c.in_ok-replace.ensures.replaced, c.in_ok-new.ensures) (among_set _ _ _ known.0 known.1 masks c.in_ok-set.set
    (c.in_ok-set.ensures.among masks keeps) all)
