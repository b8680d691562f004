use Rattle.scf_insn.proofs.CallWords.{word_below}
use Rattle.scf_facts.proofs.Common.{length-set, arith, common_steps, recursion_from_All, All-set}
use Rattle.scf_facts.proofs.StoreLaws.{among_word, exact_word, number_set, read}
use Rattle.scf_facts.proofs.snapshot.Snapshot.pick.Goals as goal

pub returns-clause-allowed : goal.returns-clause-allowed
returns-clause-allowed c = grind (arith, common_steps, c.loop-index.invariant, recursion_from_All)

pub returns-in_err-words-clause-found : goal.returns-in_err-words-clause-found
returns-in_err-words-clause-found c = λ exact words h.
    let known = read c.args.self.now c.loop-index.index _ c.word.ensures.word in
    let found = c.pick.ensures.found (exact_word _ _ _ known.0 known.1 exact) in
    grind (arith, common_steps, word_below, known, found, h.each c.loop-index.index c.word.result.now known.0)

pub returns-in_err-words-clause-found_among : goal.returns-in_err-words-clause-found_among
returns-in_err-words-clause-found_among c = λ masks few all words h.
    let known = read c.args.self.now c.loop-index.index _ c.word.ensures.word in
    let found = c.pick.ensures.found_among masks few (among_word _ _ _ known.0 known.1 masks all) in
    grind (arith, common_steps, word_below, known, found, h.each c.loop-index.index c.word.result.now known.0)

pub loop-index-preserved : goal.loop-index-preserved
loop-index-preserved c =
    let known = read c.args.self.now c.loop-index.index _ c.word.ensures.word in
    let so_far = c.loop-index.invariant in
    record {
      sixteen = λ _. c.word.ensures.sixteen;
      count = grind (arith, common_steps, length-set, so_far.count);
      fits = grind (arith, common_steps, All-set, so_far.fits);
      each = number_set _ _ _ known.0 known.1 c.loop-index.words _ _
          (omega (arith, so_far.count, c.word.ensures.sixteen, known.0))
          (grind (arith, common_steps, c.pick.ensures.allowed))
          (λ k d lt differs. so_far.each k d (omega (arith, lt, differs)));
    }
