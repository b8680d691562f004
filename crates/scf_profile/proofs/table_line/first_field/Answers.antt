use Rattle.scf_profile.proofs.Common.{◌≡◌, false, sym, ◌∙◌, arith, lt-ltb, take_all, length-take, All-same, is_separator, nat_tests, common_steps}
use Rattle.scf_profile.proofs.Cuts.{field_ends, all_or_none, first_passes}
use Rattle.scf_profile.proofs.table_line.first_field.Goals as goal

pub returns-then-is_blank : goal.returns-then-is_blank
returns-then-is_blank c = grind (arith, common_steps, nat_tests, first_passes, length-take, lt-ltb, field_ends, c.is_blank.ensures, c.trimmed-line.ensures.begins, c.split_at.ensures.front, c.split_at.ensures.back, c.trimmed-line.ensures.fields, c.loop-i.invariant)

pub loop-i-preserved : goal.loop-i-preserved
loop-i-preserved c = grind (arith, common_steps, nat_tests, c.loop-i.invariant, c.is_blank.ensures)

pub returns : goal.returns
returns c =
    let xs = c.trimmed-line.result.now in
    sym c.trimmed-line.ensures.fields
    ∙ all_or_none xs (All-same (λ b. is_separator b ≡ false) xs _ (sym (take_all _ _ c.loop-i-test.false))
    c.loop-i.invariant)
