-- The lines of the runs of a stack's filters.
use Rattle.std.proofs.lemmas.Grind.{flat_map-append}
use Rattle.std.proofs.lemmas.List.{append-nil}
use Rattle.std.proofs.lemmas.Slice.Zip.{all_zipped_more}
use Rattle.scf_machine.specs.Path.{IsPathOf}
use Rattle.scf_tool.proofs.Common.{Insn, List, [], ap, flat_map, get_or, length, sym, take, take_more, ◌++◌, ◌+◌, ◌<◌, ◌∙◌, ◌∷◌, ℕ}
use Rattle.scf_tool.specs.internal.ShownRuns.{ShowsRuns}
use Rattle.scf_tool.specs.Lines.{traced_text}

-- one filter more runs
pub one_more_run : (filters : List (List Insn)) (i : ℕ) (d : List Insn) (words text : List ℕ) (answer : ℕ)
    (indices : List ℕ) → i < length filters → ShowsRuns (take i filters) words text
    → IsPathOf (get_or filters i d) words answer indices
    → ShowsRuns (take (i + 1) filters) words (text ++ traced_text answer indices)
one_more_run filters i d words text answer indices inside (runs, are, shown) path =
    let last : List (ℕ × List ℕ) = (answer, indices) ∷ [] in (
      runs ++ last,
      rw (take_more filters i d inside) (all_zipped_more (λ filter run. IsPathOf filter words run.0 run.1)
          (take i filters) runs (get_or filters i d) (answer, indices) are path),
      ap (λ t. t ++ traced_text answer indices) shown
          ∙ ap (λ t. flat_map (λ run. traced_text run.0 run.1) runs ++ t) (sym (append-nil (traced_text answer indices)))
          ∙ sym (flat_map-append (λ run. traced_text run.0 run.1) runs last),
    )
