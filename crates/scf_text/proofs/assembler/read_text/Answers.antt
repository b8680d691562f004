use Rattle.scf_text.proofs.Common.{◌≡◌, [], ◌+◌, ◌-◌, length, arith, err_from_is_err_and, IsPermutation-refl, lines_after, lines_of, statements_from, nat_tests}
use Rattle.scf_text.proofs.IndexLemmas.{line_is_part, line_behind}
use Rattle.scf_text.proofs.ReadLemmas.{next_line, index_left}
use Rattle.scf_text.proofs.assembler.read_text.Goals as goal
use Rattle.std.proofs.lemmas.Grind.{common_steps}

pub lines-init : goal.lines-init
lines-init c = grind (arith, common_steps, nat_tests)

pub add_line-requires : goal.add_line-requires
add_line-requires c =
    line_is_part c.args.text.now c.lines.remaining.now c.first_line.result.0.now c.without_comment.result.now c.lines.number
    (length c.args.text.now - length c.lines.remaining.now) c.first_line.result.1 c.lines.invariant.remaining
    (omega (arith, c.lines.invariant.within)) c.lines.invariant.line c.first_line.ensures.whole
    c.first_line.ensures.unbroken c.without_comment.ensures.value

pub returns-in_err-add_line : goal.returns-in_err-add_line
returns-in_err-add_line c = λ all left.
    let p = err_from_is_err_and c.from_residual.result c.from_residual.ensures.1 in
    let others = lines_after c.first_line.result.1 in
    let next = next_line c.lines.number c.lines.remaining.now c.first_line.result.0.now c.without_comment.result.now others
    c.first_line.ensures.lines c.without_comment.ensures.value in (
      0,
      rw (p.1, p.2)
          (c.in_err-add_line.ensures all (statements_from (c.lines.number + 1) others)
          (rw next at c.lines.invariant.left all left)),
    )

pub returns-in-None : goal.returns-in-None
returns-in-None c = λ all left.
    let lines = rw c.in-None.is at c.first_line.ensures.lines in
    let next = next_line c.lines.number c.lines.remaining.now c.first_line.result.0.now c.without_comment.result.now [] lines
    c.without_comment.ensures.value in (
      length c.args.text.now - length c.lines.remaining.now + length c.without_comment.result.now + 1,
      c.in_ok-add_line.ensures all [] (rw next at c.lines.invariant.left all left),
    )

pub lines-preserved : goal.lines-preserved
lines-preserved c =
    let text = c.args.text.now in
    let line = c.first_line.result.0.now in
    let bytes = c.without_comment.result.now in
    let lines = rw c.in-Some.is at c.first_line.ensures.lines in
    let len = rw c.in-Some.is at c.first_line.ensures.len in
    let whole = rw c.in-Some.is at c.first_line.ensures.whole in
    let start = length text - length c.lines.remaining.now in
    let end : start + (length line + 1) ≡ length text - length c.in-Some.next.now =
    omega (arith, len, c.lines.invariant.within) in
    let others = lines_of c.in-Some.next.now in
    let next = next_line c.lines.number c.lines.remaining.now line bytes others lines c.without_comment.ensures.value in
    let behind = line_behind text c.lines.remaining.now line c.in-Some.next.now c.lines.number start c.lines.invariant.remaining
    c.lines.invariant.line whole c.first_line.ensures.unbroken in
    record {
      small = omega (arith, len);
      within = omega (arith, len, c.lines.invariant.within);
      remaining = rw (← end) behind.0;
      line = rw (← end) behind.1;
      left = λ all left. rw (← end)
          (index_left (start + (length line + 1)) c.add_line.new.labels.items
          (c.in_ok-add_line.ensures all (statements_from (c.lines.number + 1) others)
          (rw next at c.lines.invariant.left all left)) (omega (arith, c.without_comment.ensures.len))
          (IsPermutation-refl c.add_line.new.labels.items));
    }
