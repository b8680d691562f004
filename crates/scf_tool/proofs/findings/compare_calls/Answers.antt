use Rattle.scf_compare.specs.Sides.{Behavior, behavior_of}
use Rattle.scf_profile.specs.declared.named_call.NamedCall.{NamedCall}
use Rattle.scf_tool.proofs.Common.{Finding, List, ap, map, refl, sym, ◌≡◌, ◌∙◌, ℕ}
use Rattle.scf_tool.proofs.PlanLemmas.{as_many, found_of_each}
use Rattle.scf_tool.proofs.SideLemmas.{of_side}
use Rattle.scf_tool.specs.ArchitectureScopes.{scope_of_call}
use Rattle.scf_tool.specs.Comparisons.{AreFound, IsFoundInTurn, IsFoundOfInTurn, limit_of}
use Rattle.scf_tool.specs.Inputs.{behavior_of_input}
use Rattle.scf_tool.specs.JointFindings.{joint_finding}
use Rattle.scf_tool.specs.declared.findings.CallFinding.{CallFinding}
use Rattle.scf_tool.specs.declared.plan.Pairing.{Pairing}
use Rattle.scf_tool.specs.internal.Plans.{pairing_of_call}
use Rattle.scf_tool.proofs.findings.compare_calls.Goals as goal

pub named_findings-requires : goal.named_findings-requires
named_findings-requires c =
    let comparison = c.args.comparison in
    let of_call : NamedCall → Pairing =
    pairing_of_call c.side-left.result c.side-right.result c.args.table.now.architecture in
    let found = rw (c.deref-2.ensures.value, c.in_ok-pairings.ensures, c.deref.ensures.value, c.limit_of-limit.ensures)
    at c.in_ok-findings.ensures in
    rw (c.deref-5.ensures.value, c.deref-4.ensures.value)
    (as_many (IsFoundOfInTurn comparison.relation (limit_of comparison.limits)) of_call comparison.limits.total
    c.in_ok-calls.calls.items c.in_ok-findings.findings.items found.0 found.1)

pub returns : goal.returns
returns c =
    let sides = c.args.sides.now in
    let comparison = c.args.comparison in
    let limit = limit_of comparison.limits in
    let architecture = c.args.table.now.architecture in
    let calls = c.in_ok-calls.calls.items in
    let named = c.in_ok-named_findings.field-0.items in
    let of_call : NamedCall → Pairing = pairing_of_call c.side-left.result c.side-right.result architecture in
    let Found : Behavior → Behavior → ℕ → List Finding → Type 0 = λ left right after findings.
    AreFound (λ remaining call. IsFoundInTurn comparison.relation left right (scope_of_call architecture call.number)
    limit remaining) comparison.limits.total calls findings after in
    let found = rw (c.deref-2.ensures.value, c.in_ok-pairings.ensures, c.deref.ensures.value, c.limit_of-limit.ensures)
    at c.in_ok-findings.ensures in
    let each : Found (behavior_of c.side-left.result) (behavior_of c.side-right.result) found.0 c.in_ok-findings.findings.items =
    found_of_each (IsFoundOfInTurn comparison.relation limit) of_call comparison.limits.total calls
    c.in_ok-findings.findings.items found.0 found.1 in
    let findings : List Finding = map (λ (call : CallFinding). call.finding) named in
    let same : findings ≡ c.in_ok-findings.findings.items =
    c.in_ok-named_findings.ensures.found ∙ c.deref-5.ensures.value in (
      c.in_ok-named_findings.field-0,
      refl,
      calls,
      c.in_ok-calls.ensures,
      rw c.deref-4.ensures.value at c.in_ok-named_findings.ensures.named,
      found.0,
      of_side (λ (left : Behavior). Found left (behavior_of_input sides.right) found.0 findings)
          sides.left c.side-left.result c.side-left.ensures
          (of_side (λ (right : Behavior). Found (behavior_of c.side-left.result) right found.0 findings)
          sides.right c.side-right.result c.side-right.ensures (rw same each)),
      c.joint_finding.ensures ∙ ap joint_finding (c.deref-3.ensures.value ∙ sym same),
    )
