use Rattle.scf_compile.proofs.Common.{auto_rules, rules, ◌≡◌, ◌+◌, ◌∙◌, ◌<◌, ◌≤◌, ◌++◌, [], ◌∷◌, ap, arith, common_steps, List, length, nil_from_length, IfOk-weaker, Search, IsFirst, IsDispatchPut, audit_of, return_with, seccomp_ret_kill_process}
use Rattle.scf_compile.proofs.Gates.{dispatch_more, dispatch_none, dispatch_one, others_of, own_some, own_of, parts_len, parts_stand, stand_longer}
use Rattle.scf_compile.proofs.dispatch.+put_dispatch.Goals as goal

pub returns-in_default : goal.returns-in_default
returns-in_default t c =
    let whole : c.put_front.new.code.items ≡ return_with seccomp_ret_kill_process ∷ [] ++ c.args.code.now.items =
    search auto_rules in
    let here : c.len.result ≡ length c.put_front.new.code.items = search auto_rules in
    rw (nil_from_length c.args.searches.now c.in_default.ensures.cases) (dispatch_none whole here)

pub put_gate-requires-clause-stand : goal.put_gate-requires-clause-stand
put_gate-requires-clause-stand t c =
    rw (c.deref.ensures.value, c.in_ok-matching.ensures.matching)
    (parts_stand c.audit-audit.result c.args.searches.now c.args.code.now.items c.requires.stand).0

pub put_gate-requires-clause-few : goal.put_gate-requires-clause-few
put_gate-requires-clause-few t c =
    rw (c.deref.ensures.value, c.in_ok-matching.ensures.matching)
    (omega (arith, parts_len c.audit-audit.result c.args.searches.now))

pub put_branch-requires-clause-few : goal.put_branch-requires-clause-few
put_branch-requires-clause-few t c =
    let matching = c.deref.ensures.value ∙ c.in_ok-matching.ensures.matching in
    omega (
      arith,
      c.in_ok-gate.ensures.small,
      c.in_ok-foreign.ensures.few,
      ap (λ (ss : List Search). length ss) matching,
      parts_len c.audit-audit.result c.args.searches.now,
      c.in-Some.ensures.cases.1,
    )

pub returns-then-is_empty : goal.returns-then-is_empty
returns-then-is_empty t c =
    let s = c.in-Some.first.now in
    let later = c.in-Some._later.now in
    let whole : c.args.searches.now ≡ s ∷ later = search rules in
    let audit : c.audit-audit.result ≡ audit_of s = c.audit-audit.ensures in
    let matching : c.deref.result.now ≡ own_of (audit_of s) (s ∷ later) =
    c.deref.ensures.value ∙ rw (audit, whole) at c.in_ok-matching.ensures.matching in
    let others : c.in_ok-matching.others.items ≡ others_of (audit_of s) (s ∷ later) =
    rw (audit, whole) at c.in_ok-matching.ensures.others in
    let empty : length c.in_ok-matching.others.items ≡ 0 = grind (arith, common_steps) in
    let none : length (others_of (audit_of s) (s ∷ later)) ≡ 0 = rw (← others) empty in
    rw whole (IfOk-weaker c.put_branch.result (IsFirst _ _ _) (IsDispatchPut (s ∷ later) _ _)
    (λ index put. dispatch_one s later none (rw matching at c.in_ok-gate.ensures) c.in_ok-foreign.ensures (rw audit at put))
    c.put_branch.ensures)

pub put_dispatch-requires : goal.put_dispatch-requires
put_dispatch-requires t c =
    let s = c.in-Some.first.now in
    let later = c.in-Some._later.now in
    let whole : c.args.searches.now ≡ s ∷ later = search rules in
    let audit : c.audit-audit.result ≡ audit_of s = c.audit-audit.ensures in
    let others : c.deref-2.result.now ≡ others_of (audit_of s) (s ∷ later) =
    c.deref-2.ensures.value ∙ rw (audit, whole) at c.in_ok-matching.ensures.others in
    let fewer : length c.deref-2.result.now + 1 ≤ length c.args.searches.now =
    rw (others, whole) (omega (arith, parts_len (audit_of s) (s ∷ later), own_some s later)) in (
      omega arith,
      (
        rw others (parts_stand (audit_of s) (s ∷ later) c.args.code.now.items (rw whole at c.requires.stand)).1,
        omega arith,
      ),
    )

pub put_gate-requires-2-clause-stand : goal.put_gate-requires-2-clause-stand
put_gate-requires-2-clause-stand t c =
    rw (c.deref-3.ensures.value, c.in_ok-matching.ensures.matching)
    (stand_longer c.args.code.now.items _ _ c.in_ok-next.ensures.put.longer
    (parts_stand c.audit-audit.result c.args.searches.now c.args.code.now.items c.requires.stand).0)

pub put_gate-requires-2-clause-few : goal.put_gate-requires-2-clause-few
put_gate-requires-2-clause-few t c =
    let s = c.in-Some.first.now in
    let later = c.in-Some._later.now in
    let whole : c.args.searches.now ≡ s ∷ later = search rules in
    let audit : c.audit-audit.result ≡ audit_of s = c.audit-audit.ensures in
    let matching : c.deref-3.result.now ≡ own_of (audit_of s) (s ∷ later) =
    c.deref-3.ensures.value ∙ rw (audit, whole) at c.in_ok-matching.ensures.matching in
    let others : c.deref-2.result.now ≡ others_of (audit_of s) (s ∷ later) =
    c.deref-2.ensures.value ∙ rw (audit, whole) at c.in_ok-matching.ensures.others in
    omega (
      arith,
      c.in_ok-next.ensures.small,
      ap (λ (ss : List Search). length ss) matching,
      ap (λ (ss : List Search). length ss) others,
      ap (λ (ss : List Search). length ss) whole,
      parts_len (audit_of s) (s ∷ later),
      own_some s later,
    )

pub put_branch-requires-2-clause-few : goal.put_branch-requires-2-clause-few
put_branch-requires-2-clause-few t c =
    let s = c.in-Some.first.now in
    let later = c.in-Some._later.now in
    let whole : c.args.searches.now ≡ s ∷ later = search rules in
    let audit : c.audit-audit.result ≡ audit_of s = c.audit-audit.ensures in
    let matching : c.deref-3.result.now ≡ own_of (audit_of s) (s ∷ later) =
    c.deref-3.ensures.value ∙ rw (audit, whole) at c.in_ok-matching.ensures.matching in
    let others : c.deref-2.result.now ≡ others_of (audit_of s) (s ∷ later) =
    c.deref-2.ensures.value ∙ rw (audit, whole) at c.in_ok-matching.ensures.others in
    omega (
      arith,
      c.in_ok-next.ensures.small,
      c.in_ok-gate-2.ensures.small,
      ap (λ (ss : List Search). length ss) matching,
      ap (λ (ss : List Search). length ss) others,
      ap (λ (ss : List Search). length ss) whole,
      parts_len (audit_of s) (s ∷ later),
      own_some s later,
    )

pub returns : goal.returns
returns t c =
    let s = c.in-Some.first.now in
    let later = c.in-Some._later.now in
    let whole : c.args.searches.now ≡ s ∷ later = search rules in
    let audit : c.audit-audit.result ≡ audit_of s = c.audit-audit.ensures in
    let matching : c.deref-3.result.now ≡ own_of (audit_of s) (s ∷ later) =
    c.deref-3.ensures.value ∙ rw (audit, whole) at c.in_ok-matching.ensures.matching in
    let others : c.deref-2.result.now ≡ others_of (audit_of s) (s ∷ later) =
    c.deref-2.ensures.value ∙ rw (audit, whole) at c.in_ok-matching.ensures.others in
    let here : 0 < length c.in_ok-matching.others.items = grind (arith, common_steps) in
    let some : 0 < length (others_of (audit_of s) (s ∷ later)) = rw (← others, c.deref-2.ensures.value) here in
    rw whole (IfOk-weaker c.put_branch-2.result (IsFirst _ _ _) (IsDispatchPut (s ∷ later) _ _)
    (λ index put. dispatch_more s later (rw whole at c.requires.stand) some (rw others at c.in_ok-next.ensures)
    (rw matching at c.in_ok-gate-2.ensures) (rw audit at put)) c.put_branch-2.ensures)
