-- The tree of several profiles: its steps are those of the profile that is asked, and at an answer to a call of another
-- architecture the next profile begins.
use Rattle.std.proofs.lemmas.Grind.{common_steps}
use Rattle.std.specs.Prelude.{IfNone}
use Rattle.scf_compare.proofs.Common.{◌≡◌, ◌≢◌, ◌∷◌, [], ℕ, ◌+◌, ◌*◌, ◌<◌, ◌≤◌, List, Option, None, Some, IfSome, All, arith, drop, length, refl, sym, inl, inr, slice_get, slice_get_within, get_or_from_slice_get, take_all, AreNumbersOf, Answer, Atom, CallRecord, IsOf, NumberRules, Profile, ProfileAnswers, SideLeaf, Step, Branch, call_of, side_leaves}
use Rattle.scf_profile.proofs.Answering.{first_here, none_here, only_foreign}
use Rattle.scf_profile.specs.ProfileAnswers.{OfFirst, ProfilesAnswer}
use Rattle.scf_profile.specs.declared.reason.Reason.TheVariants.{Default, Entry, Foreign, Stub}
use Rattle.scf_compare.specs.Effort.{answer_of_none, spread, spread_in_turn}
use Rattle.scf_compare.specs.Masked.{IsMaskedProfile}
use Rattle.scf_compare.specs.Sides.{AnswersFrom, ProfilesGive, profiles_behavior}
use Rattle.scf_compare.specs.declared.origin.Origin.{Origin}
use Rattle.scf_compare.specs.declared.origin.Origin.TheVariants.{Filter, Profile as OfReason}
use Rattle.scf_compare.specs.declared.profile.ProfileNode.{ProfileNode}
use Rattle.scf_compare.specs.declared.profile.ProfileNode.TheVariants.{Architecture}
use Rattle.scf_compare.specs.declared.step.Step.TheVariants.{Leaf, Next}
use Rattle.scf_compare.specs.internal.Profiles.{EndsForeign, ProfileGives, profile_behavior, profile_tree}
use Rattle.scf_compare.specs.internal.SeveralProfiles.{IsOfNoneBefore, size_of_later, tree_at}
use Rattle.scf_compare.specs.internal.Trees.{GoesEither, IsStep, Tree}
use Rattle.scf_compare.proofs.Numbered.{at_index, numbers_spread}
use Rattle.scf_compare.proofs.Rules.{all_more, drop_here}

-- what goes either way goes on by either
pub on_either : (atom : Option Atom) (words : List ℕ) {a b c d : Type 0} → (a → c) → (b → d) → GoesEither atom words a b
    → GoesEither atom words c d
on_either None words f g (inl first) = inl (f first)
on_either None words f g (inr second) = inr (g second)
on_either (Some atom) words f g goes = (λ e. f (goes.0 e), λ e. g (goes.1 e))

module _ (profiles : List Profile) (numbers : List NumberRules) (index : ℕ) (p : Profile)
    (stands : slice_get profiles index ≡ Some p) where
  abbrev others : ℕ
  others = size_of_later profiles index

  inside : index < length profiles
  inside = slice_get_within profiles index p stands

  masked_here : (masks : ℕ) → All (IsMaskedProfile masks) profiles → IsMaskedProfile masks p
  masked_here masks all = at_index (IsMaskedProfile masks) profiles index p all stands

  module _ (words : List ℕ) (before : IsOfNoneBefore profiles index (call_of words)) where
    -- what holds of this profile, of whose architecture the call is, is what holds of the first of it
    own_here : (own : Profile → Type 0) (none : Type 0) → IsOf p.architecture (call_of words) → own p
        → OfFirst profiles (call_of words) own none
    own_here own none = first_here (call_of words) own none profiles index _ inside
        (sym (get_or_from_slice_get profiles index p p stands)) before

    -- behind the last profile, of whose architecture the call isn't either, there is none
    of_none_here : index + 1 ≡ length profiles → (IsOf p.architecture (call_of words) → ⊥)
        → All (λ p. IsOf p.architecture (call_of words) → ⊥) profiles
    of_none_here last differs =
        let all =
        all_more (λ (q : Profile). IsOf q.architecture (call_of words) → ⊥) profiles index p stands before differs in
        rw (take_all (index + 1) profiles (omega (arith, last))) at all

    answer_of_all : (origin : Origin) (answer : ℕ) → (origin ≡ OfReason Foreign → index + 1 ≡ length profiles)
        → ProfileAnswers p (call_of words) answer → ProfileGives p origin words
        → ProfilesAnswer profiles (call_of words) answer × ProfilesGive profiles origin words
    answer_of_all (Filter filter at) answer last told gives = absurd gives
    answer_of_all (OfReason Foreign) answer last told gives =
        let all = of_none_here (last refl) gives in (
          none_here _ _ _ profiles all (only_foreign _ _ gives told),
          none_here _ _ _ profiles all refl,
        )
    answer_of_all (OfReason Stub) answer last told gives = (own_here _ _ gives.0 told, own_here _ _ gives.0 gives)
    answer_of_all (OfReason (Entry entry)) answer last told gives =
        (own_here _ _ gives.0 told, own_here _ _ gives.0 gives)
    answer_of_all (OfReason Default) answer last told gives = (own_here _ _ gives.0 told, own_here _ _ gives.0 gives)

    tells_of_all : (answer : Option Answer) (origin : Origin)
        → (origin ≡ OfReason Foreign → index + 1 ≡ length profiles)
        → IfSome answer (λ a. AnswersFrom (profile_behavior p) origin words a.0)
        → IfSome answer (λ a. AnswersFrom (profiles_behavior profiles) origin words a.0)
    tells_of_all None origin last told = told
    tells_of_all (Some answer) origin last told = answer_of_all origin answer.0 last told.0 told.1

  -- an answer to a call of another architecture is none to the profile's
  of_another : (answer : Option Answer) (origin : Origin) (words : List ℕ) → origin ≡ OfReason Foreign
      → IfNone answer ⊥ → IfSome answer (λ a. AnswersFrom (profile_behavior p) origin words a.0)
      → IsOf p.architecture (call_of words) → ⊥
  of_another None origin words foreign known told = absurd known
  of_another (Some answer) origin words foreign known told =
      let gives : ProfileGives p origin words = told.1 in rw foreign at gives

  module _ (given : List ℕ → Type 0) (node : ProfileNode) (are : AreNumbersOf numbers p.rules) where
    abbrev tree : Tree ProfileNode
    tree = profile_tree (record { profile = p; numbers = numbers }) others

    abbrev IsInner : Step ProfileNode SideLeaf → Type 0
    IsInner step = IsStep (side_leaves (profile_behavior p)) given tree node tree step

    abbrev IsOuter : Tree ProfileNode → Step ProfileNode SideLeaf → Type 0
    IsOuter after step =
        IsStep (side_leaves (profiles_behavior profiles)) given (tree_at profiles index numbers (Some p)) node
        after step

    -- a step of the profile is one of all, but for an answer to a call of another architecture before later profiles
    pub to_step : (step : Step ProfileNode SideLeaf) → (EndsForeign step → index + 1 ≡ length profiles) → IsInner step
        → IsOuter (tree_at profiles index numbers (Some p)) step
    to_step (Next next) last step = grind (arith, common_steps)
    to_step (Branch atom if_true if_false) last step = record {
      proper = (step.proper.0, (are, step.proper.1), (are, step.proper.2));
      leads = λ words is r.
          on_either atom words (λ first. (r.0, first)) (λ second. (r.0, second)) (step.leads words is r.1);
      costs = step.costs;
      plain = λ masks all. ((step.plain masks (masked_here masks all)).0, all, all);
    }
    to_step (Leaf leaf) last step = record {
      proper = step.proper;
      leads = λ words is r. tells_of_all words r.0 leaf.answer leaf.origin last (step.leads words is r.1);
      costs = step.costs;
      plain = λ masks all. step.plain masks (masked_here masks all);
    }

    -- a call of another architecture goes on to the next profile
    pub to_later : (step : Step ProfileNode SideLeaf) → EndsForeign step → IsInner step → others ≤ tree.size node
        → (after : Tree ProfileNode) (root : ProfileNode) → after.is_node root
        → ((words : List ℕ) → IsOfNoneBefore profiles (index + 1) (call_of words) → after.reaches root words)
        → after.size root ≡ spread_in_turn (answer_of_none profiles) (drop (index + 1) profiles)
        → ((masks : ℕ) → All (IsMaskedProfile masks) profiles → after.is_plain masks root)
        → IsOuter after (Next root)
    to_later (Next next) foreign step counts after root is reached size plain = absurd foreign
    to_later (Branch atom if_true if_false) foreign step counts after root is reached size plain = absurd foreign
    to_later (Leaf leaf) foreign step counts after root is reached size plain = record {
      proper = is;
      leads = λ words given r. reached words
          (all_more (λ (q : Profile). IsOf q.architecture (call_of words) → ⊥) profiles index p stands r.0
          (of_another leaf.answer leaf.origin words foreign step.proper.1 (step.leads words given r.1)));
      costs = omega (arith, size, counts);
      plain = plain;
    }

-- the profiles from one on
pub spreads_more : (behind : ℕ) (profiles : List Profile) (index : ℕ) (p : Profile) → slice_get profiles index ≡ Some p
    → spread_in_turn behind (drop index profiles) ≡ spread p + 3 * spread_in_turn behind (drop (index + 1) profiles)
spreads_more behind profiles index p stands = grind (arith, drop_here)

-- the root of a profile's tree has the spread of it and the later ones
pub root_size : (profiles : List Profile) (numbers : List NumberRules) (index : ℕ) (p : Profile)
    → slice_get profiles index ≡ Some p → AreNumbersOf numbers p.rules
    → (tree_at profiles index numbers (Some p)).size Architecture
    ≡ spread_in_turn (answer_of_none profiles) (drop index profiles)
root_size profiles numbers index p stands are =
    omega (arith, spreads_more (answer_of_none profiles) profiles index p stands, numbers_spread numbers p are)

-- a call of none of the profiles before an index past the last is of none
pub of_none : (profiles : List Profile) (index : ℕ) (call : CallRecord) → length profiles ≤ index
    → IsOfNoneBefore profiles index call → All (λ p. IsOf p.architecture call → ⊥) profiles
of_none profiles index call past before = rw (take_all index profiles past) at before

-- behind the last of several profiles there is a step
pub end_of_several : (profiles : List Profile) (index : ℕ) → length profiles ≤ index
    → (0 < index → length profiles ≢ 1) → answer_of_none profiles ≡ 1
end_of_several [] index past several = refl
end_of_several (p ∷ []) index past several = absurd (several (omega arith) refl)
end_of_several (p ∷ q ∷ later) index past several = refl
