use Rattle.std.proofs.lemmas.Result.{IfOk-weaker}
use Rattle.scf_compare.proofs.Common.{ℕ, Compared, Finding, common_steps, arith}
use Rattle.scf_compare.specs.declared.budget.Limit.{Limit}
use Rattle.scf_compare.specs.internal.Comparers.{IsComparison}
use Rattle.scf_compare.proofs.comparer.compare_counted.Goals as goal

-- stacks that are one are known to be the same
of_one : {compared : Compared} {is_complete are_one is_same : Type 0} {limit : ℕ} {budget : Limit}
    {taken left_below : ℕ} → (are_one → is_same) → (finding : Finding)
    → IsComparison compared is_complete is_same limit budget finding taken left_below
    → IsComparison compared is_complete are_one limit budget finding taken left_below
of_one same finding is = grind (arith, common_steps, is.of_one, same)

pub returns-in-Stack : goal.returns-in-Stack
returns-in-Stack g c =
    rw c.in-Stack.is
    (IfOk-weaker c.compare_with.result _ _ (of_one (rw c.in-Stack.is at c.are_same_stacks-is_same.ensures.all))
    c.compare_with.ensures)

pub returns-in-Profiles : goal.returns-in-Profiles
returns-in-Profiles g c =
    rw c.in-Profiles.is
    (IfOk-weaker c.compare_with-in-Profiles.result _ _ (of_one (λ own. absurd own)) c.compare_with-in-Profiles.ensures)

pub compare_with-requires-in-Profiles : goal.compare_with-requires-in-Profiles
compare_with-requires-in-Profiles g c = λ same.
    rw c.in-Profiles.is at (c.are_same_stacks-is_same.ensures.related same c.args.by c.args.over)
