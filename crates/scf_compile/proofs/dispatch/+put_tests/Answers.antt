use Rattle.scf_compile.proofs.Common.{rules, ◌≡◌, ◌-◌, ◌<◌, ◌≤◌, ◌^◌, [], ◌∷◌, arith, nil_from_length, IfOk-weaker, IsFirst, IsPut, AreTestsPut}
use Rattle.scf_compile.proofs.Gates.{first_of, last_of, tests_above, tests_all, tests_below, tests_none}
use Rattle.scf_compile.proofs.dispatch.+put_tests.Goals as goal

pub returns-in_default : goal.returns-in_default
returns-in_default t c =
    rw (nil_from_length c.args.searches.now c.in_default.ensures.cases)
    (IfOk-weaker c.put_foreign.result (IsPut _ _ _) (AreTestsPut c.args.least [] _ _)
    (λ index put. tests_none c.args.least put) c.put_foreign.ensures)

pub returns-then-last-lt4294967295 : goal.returns-then-last-lt4294967295
returns-then-last-lt4294967295 t c =
    let s = c.in-Some.search.now in
    let whole : c.args.searches.now ≡ s ∷ c.in-Some.others.now = search rules in
    let last = c.last-last.ensures in
    let end : last_of s < 2 ^ 32 - 1 = omega arith in
    rw whole (IfOk-weaker c.put_branch.result (IsFirst _ _ _) (AreTestsPut c.args.least (s ∷ c.in-Some.others.now) _ _)
    (λ index put. tests_below c.args.least s c.in-Some.others.now (rw whole at c.requires.stand).0 end
    (rw last at c.in_ok-above.ensures) (rw last at put)) c.put_branch.ensures)

pub returns-then-least-first : goal.returns-then-least-first
returns-then-least-first t c =
    let s = c.in-Some.search.now in
    let whole : c.args.searches.now ≡ s ∷ c.in-Some.others.now = search rules in
    let end : 2 ^ 32 - 1 ≤ last_of s = omega arith in
    rw whole (IfOk-weaker c.put_branch-then-least-first.result (IsFirst _ _ _)
    (AreTestsPut c.args.least (s ∷ c.in-Some.others.now) _ _)
    (λ index put. tests_above c.args.least s c.in-Some.others.now (rw whole at c.requires.stand).0 end
    c.in_ok-below.ensures c.in_ok-jump.ensures (rw c.first-first.ensures at put)) c.put_branch-then-least-first.ensures)

pub returns : goal.returns
returns t c =
    let s = c.in-Some.search.now in
    let whole : c.args.searches.now ≡ s ∷ c.in-Some.others.now = search rules in
    let end : 2 ^ 32 - 1 ≤ last_of s = omega arith in
    let begin : first_of s ≤ c.args.least = omega arith in
    rw whole (IfOk-weaker c.put_jump-2.result (IsFirst _ _ _) (AreTestsPut c.args.least (s ∷ c.in-Some.others.now) _ _)
    (λ index put. tests_all c.args.least s c.in-Some.others.now (rw whole at c.requires.stand).0 end begin put)
    c.put_jump-2.ensures)
