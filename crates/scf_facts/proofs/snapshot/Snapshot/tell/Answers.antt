use Rattle.scf_facts.proofs.Common.{◌≡◌, ◌<◌, arith, answer_at, true, false}
use Rattle.scf_facts.proofs.StoreLaws.{each_word, exact_word, other_answer, read}
use Rattle.scf_facts.proofs.snapshot.Snapshot.tell.Goals as goal

pub returns-clause-both : goal.returns-clause-both
returns-clause-both c = λ maybe exact some h.
    let sets = c.args.self.now in
    let word = c.word.result in
    let asked = c.word.ensures in
    let known = read sets word _ c.word-2.ensures.word in
    let below : word < 16 = omega (arith, asked, c.requires.word) in
    let some_of = c.tell.ensures.both maybe (exact_word sets word _ known.0 known.1 exact) in (
      other_answer sets word _ known.0 known.1 c.args.atom true asked below some h some_of.0,
      other_answer sets word _ known.0 known.1 c.args.atom false asked below some h some_of.1,
    )

pub returns-clause-always : goal.returns-clause-always
returns-clause-always c = λ is words h.
    let known = read c.args.self.now c.word.result _ c.word-2.ensures.word in
    rw (← c.word.ensures) (each_word _ _ _ known.0 known.1 (λ x. answer_at c.args.atom x ≡ true)
    (c.tell.ensures.always is) words h)

pub returns-clause-never : goal.returns-clause-never
returns-clause-never c = λ is words h.
    let known = read c.args.self.now c.word.result _ c.word-2.ensures.word in
    rw (← c.word.ensures) (each_word _ _ _ known.0 known.1 (λ x. answer_at c.args.atom x ≡ false)
    (c.tell.ensures.never is) words h)
