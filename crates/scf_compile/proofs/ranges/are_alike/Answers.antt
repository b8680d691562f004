use Rattle.scf_compile.proofs.Common.{rules, tests, ◌≡◌, ◌<◌, ◌≤◌, ◌∷◌, List, length, true, refl, arith, drop_more, sum_by-cons, pointwise, pointwise_decides, Answer, Condition, eq-value, Rule, StandsFor, nat_tests, common_steps}
use Rattle.std.proofs.lemmas.List.{drop_all}
use Rattle.scf_compile.proofs.ranges.are_alike.Goals as goal

-- conditions that `==` takes as equal are
same_conditions : (cs ds : List Condition) → pointwise eq-value.it cs ds ≡ true → cs ≡ ds
same_conditions cs ds = (pointwise_decides {E = eq-value.it} (λ c d. (λ e. search rules, λ e. search rules)) cs ds).0

-- a rule stands for one with the same conditions and answer, before rules that stand for others
alike_more : (default : Answer) (r o : Rule) (rs os : List Rule) → r.conditions ≡ o.conditions → r.answer ≡ o.answer
    → StandsFor default rs os → StandsFor default (r ∷ rs) (o ∷ os)
alike_more default r o rs os conditions answer later = grind (arith, common_steps, nat_tests, sum_by-cons)

pub loop-i-preserved : goal.loop-i-preserved
loop-i-preserved c = λ default later.
    let rs = c.args.rules.now in
    let os = c.args.others.now in
    let i = c.loop-i.i in
    let r = c.index-rules-i.result in
    let o = c.index-others-i.result in
    let inside : i < length os = omega arith in
    let conditions : r.conditions ≡ o.conditions = same_conditions r.conditions o.conditions (search (rules, tests)) in
    let answer : r.answer ≡ o.answer = search (rules, tests) in
    c.loop-i.invariant default
    (rw (drop_more rs i r c.loop-i-test.true, drop_more os i o inside, ← c.index-rules-i.is, ← c.index-others-i.is)
    (alike_more default r o _ _ conditions answer later))

pub returns : goal.returns
returns c = λ yes default.
    let all : length c.args.others.now ≤ c.loop-i.i = omega arith in
    c.loop-i.invariant default
    (rw (drop_all c.loop-i.i c.args.rules.now c.loop-i-test.false, drop_all c.loop-i.i c.args.others.now all)
    (record { answers = λ a call. refl; small = omega arith }))
