use Rattle.scf_tool.proofs.Common.{◌≡◌, AllZip, map, take}
use Rattle.scf_tool.specs.JointFindings.{IsNamedAs}
use Rattle.scf_tool.proofs.findings.named_findings.Given as goal

abbrev pub invariant-loop-i : goal.invariant-loop-i
invariant-loop-i l = record {
  named : AllZip IsNamedAs (take l.i l.calls) l.named.items;
  found : map (λ call. call.finding) l.named.items ≡ take l.i l.findings;
}
