-- The stubs of a bundle, part by part.
use Rattle.scf_request.proofs.Common.{◌≡◌, ◌<◌, ◌+◌, ◌++◌, ◌∙◌, ℕ, List, [], ◌∷◌, None, Some, ap, append-nil, get_or, length, map, map-append, rest_of_table, filter_map-append, refl, sym, take, take_more, PartReader, TableReader}
use Rattle.scf_request.specs.Interpretations.{stub_of, stubs_of}
use Rattle.scf_request.specs.declared.interpretation.Stub.{Stub}

module _ (parts : List (TableReader PartReader)) (i : ℕ) (d : TableReader PartReader) (lt : i < length parts) where
  stubs_more : stubs_of (map rest_of_table (take (i + 1) parts))
      ≡ stubs_of (map rest_of_table (take i parts)) ++ stubs_of (rest_of_table (get_or parts i d) ∷ [])
  stubs_more = ap (λ (read : List (TableReader PartReader)). stubs_of (map rest_of_table read)) (take_more parts i d lt)
      ∙ ap stubs_of (map-append rest_of_table (take i parts) (get_or parts i d ∷ []))
      ∙ filter_map-append stub_of (map rest_of_table (take i parts)) (rest_of_table (get_or parts i d) ∷ [])

  module _ (stubs : List Stub) (before : stubs ≡ stubs_of (map rest_of_table (take i parts))) where
    -- one more part has the number of a stub
    pub stub_added : (stub : Stub) (after : List Stub) → stub_of (rest_of_table (get_or parts i d)) ≡ Some stub
        → after ≡ stubs ++ stub ∷ [] → after ≡ stubs_of (map rest_of_table (take (i + 1) parts))
    stub_added stub after stated added = rw (added, before, stubs_more, stated) refl

    -- one more has none
    pub no_stub : stub_of (rest_of_table (get_or parts i d)) ≡ None
        → stubs ≡ stubs_of (map rest_of_table (take (i + 1) parts))
    no_stub none = rw (before, stubs_more, none) (sym (append-nil (stubs_of (map rest_of_table (take i parts)))))
