use Rattle.scf_profile.proofs.Common.{◌≡◌, ◌≤◌, ◌^◌, [], drop, vec_len, All, length, items_view, Some, IsEntry, each, entry_of}
use Rattle.scf_profile.proofs.profile_text.read_entries.Given as goal

-- the entries so far and the items that are left give what all items give
abbrev pub invariant-loop-item : goal.invariant-loop-item
invariant-loop-item l = record {
  so_far : each (λ before. entry_of l.reading (Some (length before))) l.entries.items (items_view (drop l.item-index l.item-items))
      ≡ each (λ before. entry_of l.reading (Some (length before))) [] (items_view l.item-items);
  count : vec_len l.entries ≤ 2 ^ 32;
  range : All IsEntry l.entries.items;
}
