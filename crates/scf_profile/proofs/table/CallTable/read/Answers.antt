use Rattle.scf_profile.proofs.Common.{ℕ, ◌<◌, ◌⊎◌, List, length, refl, arith, inl, inr, names_of, with_lines, ◌≡◌, ◌∷◌, Option, None, Some, Result, Ok, Err, TableFault, ◌>>=◌, Names, with_entry, fields, entry_in, BeginWithCall, nat_tests, common_steps}
use Rattle.scf_profile.specs.Table.{HasCall}
use Rattle.scf_profile.proofs.NamesOf.{call_numbers_empty, no_entries}
use Rattle.scf_profile.proofs.table.CallTable.read.Goals as goal

-- a line that was read is a name and a number, or is passed over
begins_before : (line : ℕ) (names more : Names) (text : List ℕ) (texts : List (List ℕ))
    → (entry_in line (fields text) >>= with_entry line names) ≡ Ok more → BeginWithCall texts
    → BeginWithCall (text ∷ texts)
begins_before line names more text texts read begins = by_entry (entry_in line (fields text)) refl read where
  by_entry : (entry : Result (Option (List ℕ × ℕ)) TableFault) → entry_in line (fields text) ≡ entry
      → (entry >>= with_entry line names) ≡ Ok more → BeginWithCall (text ∷ texts)
  by_entry (Err e) is ok = absurd (cc)
  by_entry (Ok None) is ok = inr (record { line = line; states = is }, begins)
  by_entry (Ok (Some (name, number))) is ok = grind (arith, common_steps, nat_tests)

-- a line behind which there are entries is a name and a number, or there were some before it
has_call : (line : ℕ) (old new : List (List ℕ × ℕ)) (text : List ℕ)
    → (entry_in line (fields text) >>= with_entry line (names_of old)) ≡ Ok (names_of new) → 0 < length new
    → (0 < length old) ⊎ HasCall text
has_call line old new text read some = by_entry (entry_in line (fields text)) refl read where
  by_old : (es : List (List ℕ × ℕ)) → names_of es ≡ names_of new → (0 < length es) ⊎ HasCall text
  by_old es h = grind (arith, common_steps, nat_tests, no_entries)

  by_entry : (entry : Result (Option (List ℕ × ℕ)) TableFault) → entry_in line (fields text) ≡ entry
      → (entry >>= with_entry line (names_of old)) ≡ Ok (names_of new) → (0 < length old) ⊎ HasCall text
  by_entry (Err e) is ok = absurd (cc)
  by_entry (Ok None) is ok = by_old old (cc)
  by_entry (Ok (Some (name, number))) is ok = grind (arith, common_steps, nat_tests)

pub loop-remaining-init : goal.loop-remaining-init
loop-remaining-init c = grind (arith, common_steps, nat_tests, call_numbers_empty, c.new-numbers.ensures.empty)

pub loop-remaining-preserved : goal.loop-remaining-preserved
unfolding with_lines
loop-remaining-preserved c =
    let so_far = rw c.first_line.ensures.lines at c.loop-remaining.invariant.so_far in
    let begins = rw c.first_line.ensures.lines at c.loop-remaining.invariant.begins in
    record {
      so_far = rw c.in_ok-add_line.ensures.ok at so_far;
      counted = omega arith;
      range = c.in_ok-add_line.ensures.range c.loop-remaining.invariant.range;
      begins = λ behind. begins (begins_before _ _ _ _ _ c.in_ok-add_line.ensures.ok behind);
      some = λ some. elim (has_call _ c.loop-remaining.numbers.entries _ _ c.in_ok-add_line.ensures.ok some) [
        | inl before ↦ c.loop-remaining.invariant.some before
        | inr call ↦ begins (inl call)
      ];
    }
