use Rattle.scf_profile.proofs.Common.{◌≡◌, drop, min, reduce}
use Rattle.scf_profile.proofs.Reasons.{least_with}
use Rattle.scf_profile.specs.Reasons.{entries_met}
use Rattle.scf_profile.proofs.profile.first_entry_met.Given as goal

-- the least one so far and those from this one on have the least of all
abbrev pub invariant-loop-rule : goal.invariant-loop-rule
invariant-loop-rule l =
    least_with l.least (entries_met l.architecture (drop l.rule-index l.rules) l.call)
    ≡ reduce min (entries_met l.architecture l.rules l.call)
