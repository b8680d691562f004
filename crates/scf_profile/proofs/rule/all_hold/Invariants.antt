use Rattle.scf_profile.proofs.Common.{◌≡◌, drop}
use Rattle.scf_profile.specs.Rule.{all_hold}
use Rattle.scf_profile.proofs.rule.all_hold.Given as goal

-- whether those from this one on hold is whether all do
abbrev pub invariant-loop-condition : goal.invariant-loop-condition
invariant-loop-condition l =
    all_hold l.fn.architecture l.call (drop l.condition-index l.conditions) ≡ all_hold l.fn.architecture l.call l.conditions
