use Rattle.scf_request.proofs.Common.{◌+◌, arith, take}
use Rattle.scf_request.proofs.BundleLemmas.{tail}
use Rattle.scf_request.proofs.HeaderLemmas.{at_blank, first_line, header_in_front, no_blank}
use Rattle.scf_request.proofs.bundle.header_of.Goals as goal

pub returns-in_err-blank-clause-none : goal.returns-in_err-blank-clause-none
returns-in_err-blank-clause-none c =
    let bytes = c.args.bytes.now in
    let end = c.in_ok-end in
    rw c.from_residual-in_err-blank.ensures (λ kind count among front.
    no_blank (take end.end bytes) kind count c.in_err-blank.ensures.none
    (first_line bytes kind count end.end end.ensures.found.0 end.ensures.found.1 end.ensures.first front))

pub returns-in_err-kind-clause-none : goal.returns-in_err-kind-clause-none
returns-in_err-kind-clause-none c =
    let bytes = c.args.bytes.now in
    let end = c.in_ok-end in
    let blank = c.in_ok-blank in
    rw c.from_residual-in_err-kind.ensures (λ kind count among front.
    let parts = at_blank (take end.end bytes) kind count blank.blank blank.ensures.found.0 blank.ensures.found.1
    blank.ensures.first
    (first_line bytes kind count end.end end.ensures.found.0 end.ensures.found.1 end.ensures.first front) in
    c.in_err-kind.ensures.none kind among parts.0)

pub returns-in_err-count-clause-none : goal.returns-in_err-count-clause-none
returns-in_err-count-clause-none c =
    let bytes = c.args.bytes.now in
    let end = c.in_ok-end in
    let blank = c.in_ok-blank in
    rw c.from_residual-in_err-count.ensures (λ kind count among front.
    let parts = at_blank (take end.end bytes) kind count blank.blank blank.ensures.found.0 blank.ensures.found.1
    blank.ensures.first
    (first_line bytes kind count end.end end.ensures.found.0 end.ensures.found.1 end.ensures.first front) in
    let none = rw (tail (blank.blank + 1) (take end.end bytes)) at c.in_err-count.ensures in
    none count parts.1)

pub returns-clause-some : goal.returns-clause-some
returns-clause-some c =
    let end = c.in_ok-end in
    let blank = c.in_ok-blank in
    let whole = tail (blank.blank + 1) (take end.end c.args.bytes.now) in (
      omega (arith, end.ensures.found.0),
      header_in_front c.args.bytes.now c.in_ok-kind.kind c.in_ok-count.count end.end blank.blank end.ensures.found.0
          end.ensures.found.1 blank.ensures.found.0 blank.ensures.found.1 c.in_ok-kind.ensures.some.1
          (rw whole at c.in_ok-count.ensures),
    )
