use Rattle.scf_profile.proofs.Common.{◌≡◌, ◌&&◌, ℕ, nat_cmp, eqb, find, take, option_map, is_unconditional, Rule}
use Rattle.std.specs.BTreeMap.{get}
use Rattle.scf_profile.proofs.effective.first_answers.Given as goal

-- the answers of the first ones among the rules so far
abbrev pub invariant-loop-rule : goal.invariant-loop-rule
invariant-loop-rule l =
    (number : ℕ) → get nat_cmp l.answers number
    ≡ option_map (λ (r : Rule). r.answer)
    (find (λ r. eqb r.number number && is_unconditional l.architecture r) (take l.rule-index l.rules))
