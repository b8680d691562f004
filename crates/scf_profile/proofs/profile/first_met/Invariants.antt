use Rattle.scf_profile.proofs.Common.{◌≡◌, drop, find, meets}
use Rattle.scf_profile.proofs.profile.first_met.Given as goal

-- the first one from this one on is the first of all
abbrev pub invariant-loop-rule : goal.invariant-loop-rule
invariant-loop-rule l =
    find (λ r. meets l.architecture r l.call) (drop l.rule-index l.rules)
    ≡ find (λ r. meets l.architecture r l.call) l.rules
