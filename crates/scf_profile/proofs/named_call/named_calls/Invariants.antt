use Rattle.scf_profile.proofs.Common.{◌≡◌, ◌++◌, map}
use Rattle.scf_profile.specs.internal.NamesByNumber.{named_call}
use Rattle.scf_profile.proofs.named_call.named_calls.Given as goal

-- the calls so far and those to come are those of the map
abbrev pub invariant-loop-number : goal.invariant-loop-number
invariant-loop-number l = l.calls.items ++ map named_call l.number-iterator ≡ map named_call l.initial.number-iterator
