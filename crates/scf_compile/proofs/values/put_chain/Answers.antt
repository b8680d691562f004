use Rattle.scf_compile.proofs.Common.{rules, ◌≡◌, ℕ, ◌-◌, ◌∷◌, ap, ◌∙◌, get_or, arith, drop, drop_more, ArgumentValue}
use Rattle.scf_compile.proofs.ValueSearches.{chain_more}
use Rattle.scf_compile.proofs.values.put_chain.Goals as goal

pub loop-i-preserved : goal.loop-i-preserved
loop-i-preserved c =
    let values = c.args.values.now in
    let i = c.loop-i.i in
    let some : ArgumentValue = record { index = 0; value = 0; answer = record { 0 = 0 } } in
    let more : drop (i - 1) values ≡ get_or values (i - 1) some ∷ drop i values =
    drop_more values (i - 1) some (search rules)
    ∙ ap (λ (n : ℕ). get_or values (i - 1) some ∷ drop n values) (omega arith) in
    let hit = rw c.return_with.ensures at c.in_ok-hit.ensures in
    let branch = rw c.low_half.ensures at c.in_ok-next.ensures in
    rw more (chain_more (get_or values (i - 1) some) (drop i values) c.args.behind c.loop-i.invariant hit branch)
