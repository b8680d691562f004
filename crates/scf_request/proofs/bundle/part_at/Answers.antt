use Rattle.scf_request.proofs.Common.{◌≡◌, ◌+◌, ◌-◌, take, drop, refl, sym, arith, length-drop, take-append-drop}
use Rattle.scf_request.proofs.BundleLemmas.{part_in_front, some_left, tail}
use Rattle.scf_request.proofs.bundle.part_at.Goals as goal

pub returns-in_default-clause-fault : goal.returns-in_default-clause-fault
returns-in_default-clause-fault c = (
  refl,
  some_left c.args.offset c.args.bytes.now c.requires,
  rw (tail c.args.offset c.args.bytes.now) at c.in_default.ensures.none,
)

pub returns-then-tail-header-clause-fault : goal.returns-then-tail-header-clause-fault
returns-then-tail-header-clause-fault c =
    let header = c.in-Some.header in
    let tail_bytes = drop c.args.offset c.args.bytes.now in (
      refl,
      header.kind,
      header.count,
      c.in-Some.ensures.kind,
      record {
        header = take header.length tail_bytes;
        content = drop header.length tail_bytes;
        is_header = rw (tail c.args.offset c.args.bytes.now) at c.in-Some.ensures.some.1;
        whole = sym (take-append-drop header.length tail_bytes);
      },
      rw (length-drop header.length tail_bytes) (rw (tail c.args.offset c.args.bytes.now) at c.if-tail-header.true),
    )

pub returns-clause-part : goal.returns-clause-part
returns-clause-part c =
    let header = c.in-Some.header in
    let tail_bytes = drop c.args.offset c.args.bytes.now in
    let sum : c.args.offset + header.length + header.count - c.args.offset ≡ header.length + header.count =
    omega arith in
    let whole = tail c.args.offset c.args.bytes.now in
    rw sum (part_in_front c.args.kinds.now c.args.offset tail_bytes _ header.length c.in-Some.ensures.kind (rw whole at c.in-Some.ensures.some.0)
    (rw whole at c.if-tail-header.false) (rw whole at c.in-Some.ensures.some.1) refl)
