use Rattle.scf_text.proofs.Common.{err_from_is_err_and, statements_of, arith, nat_tests}
use Rattle.scf_text.proofs.TextLemmas.{read_tells, statements_fail}
use Rattle.scf_text.proofs.WantedLemmas.{drafts_words}
use Rattle.scf_text.proofs.assembler.read_all.Goals as goal
use Rattle.std.proofs.lemmas.Grind.{common_steps}

pub returns-in_err-labels-clause-tells : goal.returns-in_err-labels-clause-tells
returns-in_err-labels-clause-tells c = grind (arith, common_steps, nat_tests, err_from_is_err_and, statements_fail, c.from_residual.ensures.1, c.in_err-labels.ensures.fault)

pub invariant_of-resolve_all : goal.invariant_of-resolve_all
invariant_of-resolve_all c =
    let read = c.in_ok-labels.ensures.read in
    record {
      sorted = rw c.deref.ensures.value read.sorted;
      distinct = rw c.deref.ensures.value read.distinct;
      following = rw c.deref-2.ensures.value read.following;
    }

pub returns : goal.returns
returns c =
    let read = c.in_ok-labels.ensures.read in
    let resolved = rw (c.deref.ensures.value, c.deref-2.ensures.value) at c.resolve_all.ensures in
    record {
      tells = read_tells c.args.text.now c.in_ok-labels.labels.items c.in_ok-labels.parsed_insns.items c.resolve_all.result
          read resolved.tells;
      some = drafts_words (statements_of c.args.text.now) c.in_ok-labels.parsed_insns.items c.resolve_all.result read.written
          resolved.some;
    }
