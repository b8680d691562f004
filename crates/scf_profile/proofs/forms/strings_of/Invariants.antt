use Rattle.scf_profile.proofs.Common.{◌≡◌, drop, items_view, as_str, Kind, each, ok_or, strings_of}
use Rattle.scf_profile.proofs.forms.strings_of.Given as goal

-- the texts so far and the items that are left give what all items give
abbrev pub invariant-loop-item : goal.invariant-loop-item
invariant-loop-item l =
    each (λ before d. ok_or (as_str d) (Kind l.entry)) l.texts (items_view (drop l.item-index l.items))
    ≡ strings_of l.entry (items_view l.items)
