use Rattle.scf_text.proofs.Common.{◌≡◌, Err, ◌++◌, take, drop, length, length_permutation, arith, err_from_is_err_and, statements_of}
use Rattle.std.proofs.lemmas.Grind.{common_steps}
use Rattle.scf_text.proofs.TextLemmas.{nothing_read, sorted_leaves, is_read, label_told, ended_told}
use Rattle.scf_text.proofs.ReadLemmas.{index_left}
use Rattle.scf_text.proofs.assembler.read_statements.Goals as goal

pub returns-in_err-check_labels : goal.returns-in_err-check_labels
returns-in_err-check_labels c =
    let p = err_from_is_err_and c.from_residual.result c.from_residual.ensures.1 in
    let text = c.args.text.now in
    let read = c.read_text-read.ensures (statements_of text)
    (nothing_read text (statements_of text) c.new-labels.ensures.items c.new-parsed_insns.ensures.items) in
    let moved = rw c.deref_mut.ensures.value at c.in_err-check_labels.ensures.permutation in
    let kept = c.read_text-read.new.labels.items in
    let sorted = c.check_labels.new.labels in
    let parsed_insns = c.read_text-read.new.parsed_insns.items in
    let refused = label_told c.in_err-check_labels.field-0.0 c.read_text-read.result text read.0 (statements_of text)
    sorted parsed_insns
    (sorted_leaves c.read_text-read.result text read.0 (statements_of text) kept sorted parsed_insns read.1 moved)
    c.in_err-check_labels.ensures.tells in
    record {
      read = rw p.1 tt;
      fault = rw (p.1, p.2) refused.0;
      some = rw p.1 refused.1;
    }

pub returns-in_err-read : goal.returns-in_err-read
returns-in_err-read c =
    let p = err_from_is_err_and c.from_residual-in_err-read.result c.from_residual-in_err-read.ensures.1 in
    let text = c.args.text.now in
    let e = c.in_err-read.field-0.0 in
    let read = c.in_err-read.ensures (statements_of text)
    (nothing_read text (statements_of text) c.new-labels.ensures.items c.new-parsed_insns.ensures.items) in
    let moved = rw c.deref_mut.ensures.value at c.in_ok-check_labels.ensures.permutation in
    let refused = ended_told c.in_ok-check_labels.ensures.tells e
    (sorted_leaves {T = Unit {0}} (Err e) text read.0 (statements_of text) c.read_text-read.new.labels.items
    c.check_labels.new.labels c.read_text-read.new.parsed_insns.items read.1 moved) in
    record {
      read = rw p.1 tt;
      fault = rw (p.1, p.2) refused.0;
      some = rw p.1 refused.1;
    }

pub returns : goal.returns
returns c =
    let text = c.args.text.now in
    let read = c.in_ok-read.ensures (statements_of text)
    (nothing_read text (statements_of text) c.new-labels.ensures.items c.new-parsed_insns.ensures.items) in
    let sorted = c.check_labels.new.labels in
    let moved = rw c.deref_mut.ensures.value at c.in_ok-check_labels.ensures.permutation in
    let kept : take c.read_text-read.new.labels.len (sorted ++ drop (length sorted) c.read_text-read.new.labels.items) ≡ sorted =
    grind (arith, common_steps, length_permutation) in
    record {
      read = rw kept (is_read text (index_left read.0 sorted read.1 (omega arith) moved)
          c.in_ok-check_labels.ensures.sorted c.in_ok-check_labels.ensures.tells);
      fault = tt;
      some = tt;
    }
