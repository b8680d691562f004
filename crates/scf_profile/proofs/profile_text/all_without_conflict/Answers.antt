use Rattle.scf_profile.proofs.Common.{◌≡◌, ◌∷◌, [], ◌∙◌, List, length, refl, sym, ap, subst, arith, append_assoc, append-nil, map, map-append, All-push, AreOfApart, AreStatedRules, HaveNoConflict, NamesFirstConflict, Profile, effective_of, nat_tests, common_steps}
use Rattle.std.specs.Vec.Iter.{into_iter_items}
use Rattle.scf_profile.specs.declared.profile_text.StatedRules.{StatedRules}
use Rattle.scf_profile.proofs.Handed.{handed_fault}
use Rattle.scf_profile.proofs.Stated.{first_conflict, of_own}
use Rattle.scf_profile.proofs.profile_text.all_without_conflict.Goals as goal

nothing_left : (rules : List StatedRules) → length rules ≡ 0 → rules ≡ []
nothing_left rules h = grind (arith, common_steps, nat_tests)

pub effective_profile-requires-clause-rules : goal.effective_profile-requires-clause-rules
effective_profile-requires-clause-rules c =
    of_own c.args.reading c.args.default_answer c.args.stated.items c.loop-rules.yielded c.in-Some.rules (into_iter_items c.next.new.self)
    (rw (← c.in-Some.ensures.steps.0) c.loop-rules.invariant.left ∙ c.into_iter-rules-iterator.ensures.into_iter_gives.0)
    (λ s. AreStatedRules s.architecture s.rules.items) c.requires.rules

pub returns-in_err-effective_profile-clause-err : goal.returns-in_err-effective_profile-clause-err
returns-in_err-effective_profile-clause-err c =
    handed_fault (NamesFirstConflict (map (effective_of c.args.reading c.args.default_answer) c.args.stated.items)) _ _
    c.from_residual.ensures.1
    (first_conflict c.args.reading c.args.default_answer c.args.stated.items c.loop-rules.yielded c.in-Some.rules
    (into_iter_items c.next.new.self)
    (rw (← c.in-Some.ensures.steps.0) c.loop-rules.invariant.left ∙ c.into_iter-rules-iterator.ensures.into_iter_gives.0)
    c.loop-rules.profiles.items _ c.loop-rules.invariant.same c.loop-rules.invariant.none
    c.in_err-effective_profile.ensures.err)

pub loop-rules-preserved : goal.loop-rules-preserved
loop-rules-preserved c =
    let at = c.loop-rules in
    let rules = c.in-Some.rules in
    let steps : into_iter_items at.rules-iterator ≡ rules ∷ into_iter_items c.next.new.self = c.in-Some.ensures.steps.0 in
    let profile = c.in_ok-effective_profile.ensures.ok in
    record {
      left = append_assoc at.yielded (rules ∷ []) _ ∙ rw (← steps) at.invariant.left;
      count =
          let was = at.invariant.count in
          let gone = c.in-Some.ensures.steps.1 in
          let short = ap length steps in
          omega arith;
      same =
          c.in_ok-push.ensures.items ∙ rw (map-append (effective_of c.args.reading c.args.default_answer) at.yielded (rules ∷ []))
          (rw (at.invariant.same, profile) refl);
      none = rw c.in_ok-push.ensures.items
          (All-push (λ (p : Profile). HaveNoConflict p.architecture p.rules) at.profiles.items _ at.invariant.none
          c.in_ok-effective_profile.ensures.no_conflict);
    }

pub from_vec-requires : goal.from_vec-requires
from_vec-requires c =
    let at = c.loop-rules in
    let empty : into_iter_items at.rules-iterator ≡ [] =
    nothing_left _ (sym at.invariant.count ∙ c.in-None.ensures.steps.0) in
    let whole = sym (append-nil at.yielded) ∙ rw empty at at.invariant.left
    ∙ c.into_iter-rules-iterator.ensures.into_iter_gives.0 in
    subst AreOfApart (sym (at.invariant.same ∙ ap (map (effective_of c.args.reading c.args.default_answer)) whole)) c.requires.apart

pub returns-clause-no_conflict : goal.returns-clause-no_conflict
returns-clause-no_conflict c = rw c.from_vec.ensures c.loop-rules.invariant.none
