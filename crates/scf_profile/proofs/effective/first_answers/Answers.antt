use Rattle.scf_profile.proofs.Common.{◌≡◌, ◌&&◌, ℕ, ◌+◌, ◌<◌, arith, cond, List, length, get_or, take, eqb, None, Some, Architecture, Rule, common_steps, nat_tests, Bool, find, is_unconditional}
use Rattle.std.proofs.lemmas.List.{take_more}
use Rattle.std.proofs.lemmas.List.Folds.{find-append}
use Rattle.std.specs.Option.{option_or}
use Rattle.scf_profile.proofs.effective.first_answers.Goals as goal
use Rattle.scf_profile.proofs.effective.first_answers.Goals.{then-is_unconditional+in_ok-answers, else-is_unconditional}

abbrev is_meant : Architecture → ℕ → Rule → Bool
is_meant a n r = eqb r.number n && is_unconditional a r

-- the first one, if there is one more rule
first_more : (a : Architecture) (n : ℕ) (rs : List Rule) (i : ℕ) (r : Rule) → i < length rs → r ≡ get_or rs i r
    → find (is_meant a n) (take (i + 1) rs)
    ≡ option_or (find (is_meant a n) (take i rs)) (cond (is_meant a n r) (Some r) None)
first_more a n rs i r lt is = simp (take_more rs i r lt, ← is, find-append)

pub loop-rule-preserved : goal.loop-rule-preserved
loop-rule-preserved c = λ n.
    let rule = c.rule-item in
    let more = first_more c.args.architecture n c.args.rules.now _ rule.result (omega arith) rule.is in
    elim c.if-is_unconditional.branch [
      | then-is_unconditional+in_ok-answers w ↦ grind (arith, common_steps, nat_tests, more, c.loop-rule.invariant n)
      | else-is_unconditional w ↦ grind (arith, common_steps, nat_tests, more, c.loop-rule.invariant n)
    ]
