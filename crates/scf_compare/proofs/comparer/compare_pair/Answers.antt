use Rattle.std.specs.Prelude.{unwrap_or}
use Rattle.scf_compare.proofs.Common.{◌≡◌, ℕ, Compared, Finding, None, Option, Some, Which, arith, refl, rules, common_steps}
use Rattle.scf_facts.specs.Masks.{AreFew}
use Rattle.scf_compare.specs.Findings.{IsFindingDecided}
use Rattle.scf_compare.specs.declared.budget.Limit.{Limit}
use Rattle.scf_compare.specs.declared.finding.Finding.TheVariants.{Fails, Holds, Undecided, Unfinished}
use Rattle.scf_compare.specs.internal.Comparers.{IsComparison, effort_between}
use Rattle.scf_compare.specs.internal.Settling.{IsSecondWalk}
use Rattle.scf_compare.specs.internal.Stages.{DecidesIfKnown, IsExplored}
use Rattle.scf_compare.proofs.comparer.compare_pair.Goals as goal

-- what is known of a finding that isn't undecided
if_known : (claim : Type 0) (limit effort : ℕ) (finding : Finding)
    → ((side : Which) (at : ℕ) → finding ≡ Undecided side at → ⊥) → DecidesIfKnown claim limit effort finding
    → IsFindingDecided claim limit effort finding
if_known claim limit effort (Undecided side at) is known = absurd (is side at refl)
if_known claim limit effort (Holds steps) is known = known
if_known claim limit effort (Fails call left right) is known = known
if_known claim limit effort Unfinished is known = known

-- a comparison whose first walk found this
module _ (compared : Compared) (given : ℕ → Type 0) (is_complete are_one : Type 0) (limit effort taken : ℕ)
    (budget : Limit) (finding : Finding) (size : effort ≡ effort_between compared)
    (first : IsExplored compared given limit effort taken finding)
    (to : (masks : ℕ)
    → AreFew masks × is_complete × compared.left.is_masked masks × compared.right.is_masked masks → given masks) where
  explored : IsExplored compared
      (λ masks. AreFew masks × is_complete × compared.left.is_masked masks × compared.right.is_masked masks)
      limit (effort_between compared) taken finding
  explored = grind (arith, common_steps, first.decided)

  decided_comparison : ((side : Which) (at : ℕ) → finding ≡ Undecided side at → ⊥)
      → IsComparison compared is_complete are_one limit budget finding taken budget.steps
  decided_comparison is =
      grind (arith, common_steps, if_known, explored)

  -- what a second walk makes of it, if it is undecided
  settled_comparison : (left_below at : ℕ) (side : Which) (settled : Option Finding) → finding ≡ Undecided side at
      → (are_one → (settled ≡ None → ⊥)) → IsSecondWalk compared taken budget left_below settled
      → IsComparison compared is_complete are_one limit budget (unwrap_or settled finding) taken left_below
  settled_comparison left_below at side None is one second = record {
    explored = explored;
    of_one = λ own. absurd (one own refl);
    settled = λ none. absurd (let some = second.unlimited none in cc);
    below = second.leaves;
  }
  settled_comparison left_below at side (Some found) is one second =
      grind (arith, common_steps, explored)

pub explore-requires : goal.explore-requires
explore-requires g c = grind (arith, common_steps, c.start.ensures.reached)

pub settle-requires : goal.settle-requires
settle-requires g c = grind (arith, common_steps, c.start.ensures.reached)

pub returns-in_ok-settled-in-Undecided-2 : goal.returns-in_ok-settled-in-Undecided-2
returns-in_ok-settled-in-Undecided-2 g c =
    let undecided = c.in-Undecided-2 in
    let second = c.in_ok-settled-in-Undecided-2 in
    rw c.unwrap_or.ensures (settled_comparison _ _ _ _ c.args.limit _ c.explore.new.taken c.args.budget.now
    c.in_ok-finding.finding c.start.ensures.size c.in_ok-finding.ensures
    (λ masks all. (all.0, c.in_ok-facts.ensures.among all.1 masks, c.start.ensures.plain masks all.2 all.3))
    c.settle.new.budget.steps undecided.at undecided.side second.settled undecided.is (λ own. search rules) second.ensures)

pub returns-in-Undecided : goal.returns-in-Undecided
returns-in-Undecided g c =
    grind (arith, common_steps, c.in_ok-facts.ensures.among, c.start.ensures.plain, c.requires, settled_comparison)

pub returns-in_default : goal.returns-in_default
returns-in_default g c =
    grind (arith, common_steps, c.in_ok-facts.ensures.among, c.start.ensures.plain, decided_comparison)
