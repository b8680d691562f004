use Rattle.scf_compile.proofs.Common.{rules, ◌≡◌, ℕ, ◌-◌, ◌∷◌, List, ap, ◌∙◌, get_or, length, arith, append_assoc, drop, drop_more, length-append, Insn, Condition, NotEqual, conditions_code}
use Rattle.scf_compile.proofs.rules.put_conditions.Goals as goal

pub loop-i-preserved : goal.loop-i-preserved
loop-i-preserved c =
    let conditions = c.args.conditions.now in
    let whole = c.loop-i.invariant.whole in
    let i = c.loop-i.i in
    let later = conditions_code c.args.architecture (drop i conditions) in
    let some : Condition = record { index = 0; op = NotEqual; value = 0; value_two = 0 } in
    let more : drop (i - 1) conditions ≡ get_or conditions (i - 1) some ∷ drop i conditions =
    drop_more conditions (i - 1) some (search rules)
    ∙ ap (λ (n : ℕ). get_or conditions (i - 1) some ∷ drop n conditions) (omega arith) in
    let out : c.len.result - c.len-behind.result ≡ length later =
    omega (arith, ap (λ (l : List Insn). length l) whole, length-append later c.args.code.now.items) in
    record {
      whole = rw (more, append_assoc) (rw (out, whole) at c.in_ok-put_condition.ensures.whole);
      few = omega (arith, c.in_ok-put_condition.ensures.few);
    }
