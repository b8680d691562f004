use Rattle.scf_profile.proofs.Common.{All, IsPlainRule, take}
use Rattle.scf_profile.proofs.profile.are_plain.Given as goal

-- those so far are plain
abbrev pub invariant-loop-rule : goal.invariant-loop-rule
invariant-loop-rule l = All IsPlainRule (take l.rule-index l.rules)
