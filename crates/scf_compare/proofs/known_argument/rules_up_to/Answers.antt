use Rattle.std.proofs.Common.{leb, leb-false, leb-true, rules}
use Rattle.std.proofs.lemmas.List.Sorted.{IsPartitionPoint-from_clause, IsPartitionedBy-leb}
use Rattle.scf_compare.proofs.Common.{◌<◌, ◌≤◌, ℕ, List, arith, get_or, length, slice_get-get_or, Rule, common_steps}
use Rattle.scf_profile.specs.NumberRules.{AreRising, first_value}
use Rattle.scf_compare.proofs.known_argument.rules_up_to.Goals as goal

-- no value is below an earlier one
values_rise : (all : List Rule) → AreRising all → (i j : ℕ) (d : Rule) → i ≤ j → j < length all
    → first_value (get_or all i d) ≤ first_value (get_or all j d)
values_rise all rising i j d le lt =
    let here = slice_get-get_or all i d (omega arith) in
    let rise = rising i j (get_or all i d) (get_or all j d) le here (slice_get-get_or all j d lt) in
    rw (rise.begins, rise.later_begins) rise.rises

pub returns : goal.returns
returns c =
    let all = c.args.rules.now in
    let last = c.args.last in
    let parted = IsPartitionedBy-leb first_value all last (values_rise all c.requires) in
    let point = IsPartitionPoint-from_clause (λ (r : Rule). leb (first_value r) last) _ _
    c.partition_point.ensures.partitioned parted (λ a r q k. search rules) in
    grind (arith, common_steps, point.0, point.1, leb-true, leb-false)
