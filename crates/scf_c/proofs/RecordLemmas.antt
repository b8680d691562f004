-- The calls of one table more.
use Rattle.std.proofs.Common.{◌≡◌, ◌++◌, ◌+◌, ◌<◌, ◌∙◌, List, [], ◌∷◌, ap, append-nil, flat_map, get_or, length, map, subst, sym, take, ℕ}
use Rattle.std.proofs.lemmas.Grind.{flat_map-append}
use Rattle.std.proofs.lemmas.List.{map-append}
use Rattle.std.proofs.lemmas.Slice.Zip.{all_zipped_more}
use Rattle.scf_compare.specs.declared.side.Side.{Side}
use Rattle.scf_compile.proofs.Common.{take_more}
use Rattle.scf_tool.specs.Inputs.{named_of}
use Rattle.scf_tool.specs.declared.owned_table.OwnedTable.{OwnedTable}
use Rattle.scf_tool.specs.declared.plan.Pairing.{Pairing}
use Rattle.scf_c.specs.Records.{AreOfCalls, HasCalls}

pub calls_more : (left right : Side) (tables : List OwnedTable) (i : ℕ) (own : OwnedTable)
    (before added after : List Pairing) → i < length tables → own ≡ get_or tables i own
    → AreOfCalls left right (map named_of (take i tables)) before → HasCalls left right (named_of own) added
    → after ≡ before ++ added → AreOfCalls left right (map named_of (take (i + 1) tables)) after
calls_more left right tables i own before added after lt at so_far has is =
    let here : HasCalls left right (named_of (get_or tables i own)) added =
    subst (λ (one : OwnedTable). HasCalls left right (named_of one) added) at has in
    rw (take_more tables i own lt, map-append named_of (take i tables) (get_or tables i own ∷ [])) (
      so_far.0 ++ added ∷ [],
      all_zipped_more (HasCalls left right) (map named_of (take i tables)) so_far.0
          (named_of (get_or tables i own)) added so_far.1 here,
      is ∙ ap (λ (pairings : List Pairing). pairings ++ added) so_far.2
          ∙ ap (λ (pairings : List Pairing). flat_map (λ (pairings : List Pairing). pairings) so_far.0 ++ pairings)
          (sym (append-nil added))
          ∙ sym (flat_map-append (λ (pairings : List Pairing). pairings) so_far.0 (added ∷ [])),
    )
