use Rattle.scf_profile.proofs.Common.{◌≡◌, [], drop, items_view, each, All, IsCondition, condition_stated}
use Rattle.scf_profile.proofs.args.find_conditions.Given as goal

-- the conditions so far and the members that are left give what all members give
abbrev pub invariant-loop-member : goal.invariant-loop-member
invariant-loop-member l = record {
  so_far : each (condition_stated l.reading l.entry) l.conditions.items (items_view (drop l.member-index l.member-items))
      ≡ each (condition_stated l.reading l.entry) [] (items_view l.member-items);
  range : All IsCondition l.conditions.items;
}
