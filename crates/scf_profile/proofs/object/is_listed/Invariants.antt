use Rattle.scf_profile.proofs.Common.{◌≡◌, drop, is_named, list_any, texts_at}
use Rattle.scf_profile.proofs.object.is_listed.Given as goal

-- whether one from this one on is the name is whether one is
abbrev pub invariant-loop-name : goal.invariant-loop-name
invariant-loop-name l =
    list_any (λ name. is_named name l.architecture) (texts_at (drop l.name-index l.names))
    ≡ list_any (λ name. is_named name l.architecture) (texts_at l.names)
