-- The profiles of several architectures, each compared.
use Rattle.scf_tool.proofs.Common.{◌≡◌, ◌<◌, ℕ, zero, suc, Bool, true, false, not, List, [], ◌∷◌, length, get_or, find, Option, Some, None, refl, sym, subst, ap, ◌∙◌, arith, Contains, Contains-append_right, AllZip, Finding, Holds, Fails, Undecided, Unfinished}
use Rattle.std.specs.List.{fold}
use Rattle.std.specs.Prelude.{max}
use Rattle.scf_insn.specs.Architectures.{IsOf}
use Rattle.scf_insn.specs.declared.architecture.Architecture.{Architecture}
use Rattle.scf_insn.specs.Words.{IsRecord, words_of}
use Rattle.scf_insn.proofs.CallWords.{call_of-words_of}
use Rattle.scf_insn.specs.declared.record.CallRecord.{CallRecord}
use Rattle.scf_profile.specs.Profile.{AreOfApart, Profile}
use Rattle.scf_profile.proofs.Answering.{first_among, of_only}
use Rattle.scf_profile.specs.ProfileAnswers.{ProfileAnswers}
use Rattle.scf_profile.specs.declared.relation.Relation.{Relation}
use Rattle.scf_profile.specs.Scope.{IsInScope}
use Rattle.scf_profile.specs.declared.scope.Scope.{Scope}
use Rattle.scf_profile.specs.declared.scope.Scope.TheVariants.{Numbers}
use Rattle.scf_compare.specs.declared.budget.Limit.{Limit}
use Rattle.scf_compare.specs.declared.finding.Which.TheVariants.{Left, Right}
use Rattle.scf_compare.specs.Findings.{AllRelated, Compared, IsTrueFinding, compared_in}
use Rattle.scf_compare.specs.Sides.{Behavior, profiles_behavior}
use Rattle.scf_tool.specs.ArchitectureScopes.{scope_of}
use Rattle.scf_tool.specs.Comparisons.{IsFound}
use Rattle.scf_tool.specs.JointFindings.{compared_with_each, is_failure, is_holding, joint_finding, steps_of}

-- ---- two lists of one length

module _ {P V : Type 0} (R : P → V → Type 0) (f : V → Bool) where
  -- what is found belongs to an element of the first
  pub zip_found : (ps : List P) (vs : List V) (v : V) → AllZip R ps vs → find f vs ≡ Some v
      → (p : P) × Contains ps p × R p v × (f v ≡ true)
  zip_found [] [] v each e = absurd (cc)
  zip_found [] (y ∷ vs) v each e = absurd each
  zip_found (x ∷ ps) [] v each e = absurd each
  zip_found (x ∷ ps) (y ∷ vs) v each e = by_test (f y) refl (zip_found ps vs v each.1)
    where
      by_test : (b : Bool) → f y ≡ b
          → (find f vs ≡ Some v → (p : P) × Contains ps p × R p v × (f v ≡ true))
          → (p : P) × Contains (x ∷ ps) p × R p v × (f v ≡ true)
      by_test true here behind =
          let first_found : Some y ≡ Some v = rw here at e in
          let same : y ≡ v = cc in
          (x, (0, omega arith, refl), subst (R x) same each.0, ap f (sym same) ∙ here)
      by_test false here behind =
          let later : find f vs ≡ Some v = rw here at e in
          let more = behind later in
          (more.0, Contains-append_right (x ∷ []) ps more.0 more.1, more.2, more.3)

  none_parts : (y : V) (vs : List V) → find f (y ∷ vs) ≡ None → (f y ≡ false) × (find f vs ≡ None)
  none_parts y vs none = by_test (f y) refl
    where
      by_test : (b : Bool) → f y ≡ b → (f y ≡ false) × (find f vs ≡ None)
      by_test true here = let first_found : Some y ≡ None = rw here at none in absurd (cc)
      by_test false here = let behind : find f vs ≡ None = rw here at none in (here, behind)

  -- where nothing is found, each element of the first has one that isn't
  pub zip_none : (ps : List P) (vs : List V) (k : ℕ) (p : P) → AllZip R ps vs → k < length ps → get_or ps k p ≡ p
      → find f vs ≡ None → (v : V) × R p v × (f v ≡ false)
  zip_none [] vs k p each lt is none = absurd (omega arith)
  zip_none (x ∷ ps) [] k p each lt is none = absurd each
  zip_none (x ∷ ps) (y ∷ vs) zero p each lt is none = (y, subst (λ q. R q y) is each.0, (none_parts y vs none).0)
  zip_none (x ∷ ps) (y ∷ vs) (suc k) p each lt is none =
      zip_none ps vs k p each.1 (omega arith) is (none_parts y vs none).1

-- ---- their findings

-- the records that are compared are those of the architecture
scope_is_of : (scope : Scope) (architecture : Architecture) (call : CallRecord)
    → IsInScope (scope_of scope architecture) call → IsOf architecture call
scope_is_of (Numbers each first last) architecture call is = is.0
scope_is_of scope architecture call is = is.0

module _ (relation : Relation) (scope : Scope) (side : Behavior) (profiles : List Profile) (apart : AreOfApart profiles)
  where
    abbrev compared : Profile → Compared
    compared p = compared_in relation (scope_of scope p.architecture) side (profiles_behavior (p ∷ []))

    abbrev IsTrueOfAll : Finding → Type 0
    IsTrueOfAll finding = IsTrueFinding (compared_with_each relation scope side profiles) finding

    -- what a profile answers to the words of a call of its architecture, all do
    answered : (p : Profile) (call : CallRecord) (answer : ℕ) → Contains profiles p → IsRecord call
        → IsInScope (scope_of scope p.architecture) call → (profiles_behavior (p ∷ [])).answers (words_of call) answer
        → (profiles_behavior profiles).answers (words_of call) answer
    answered p call answer among record_is in_it holds =
        rw (call_of-words_of call record_is) (first_among profiles p call (λ q. ProfileAnswers q call answer) _ apart among
        (scope_is_of scope p.architecture call in_it)
        (of_only p call answer (rw (call_of-words_of call record_is) at holds)))

    -- a finding on one that isn't Holds is true of all
    one_is_true : (p : Profile) (finding : Finding) → Contains profiles p
        → IsTrueFinding (compared p) finding → is_holding finding ≡ false
        → IsTrueOfAll finding
    one_is_true p (Holds steps) among holds not_holding = absurd (cc)
    one_is_true p (Fails call left right) among holds not_holding = (
      holds.0,
      (p, among, holds.1),
      holds.2,
      answered p call right.0 among holds.0 holds.1 holds.3,
      holds.4,
    )
    one_is_true p (Undecided Left at) among holds not_holding = holds
    one_is_true p (Undecided Right at) among holds not_holding = holds
    one_is_true p Unfinished among holds not_holding = tt

    failure_is_other : (finding : Finding) → is_failure finding ≡ true → is_holding finding ≡ false
    failure_is_other (Holds steps) is = absurd (cc)
    failure_is_other (Fails call left right) is = refl
    failure_is_other (Undecided side at) is = absurd (cc)
    failure_is_other Unfinished is = absurd (cc)

    holding_is_related : (p : Profile) (finding : Finding) → IsTrueFinding (compared p) finding
        → not (is_holding finding) ≡ false → AllRelated (compared p)
    holding_is_related p (Holds steps) holds same = holds
    holding_is_related p (Fails call left right) holds same = absurd (cc)
    holding_is_related p (Undecided side at) holds same = absurd (cc)
    holding_is_related p Unfinished holds same = absurd (cc)

    other_is_not_holding : (finding : Finding) → not (is_holding finding) ≡ true → is_holding finding ≡ false
    other_is_not_holding (Holds steps) is = absurd (cc)
    other_is_not_holding (Fails call left right) is = refl
    other_is_not_holding (Undecided side at) is = refl
    other_is_not_holding Unfinished is = refl

    module _ (limit : Limit) where
      abbrev Found : Profile → Finding → Type 0
      Found p finding = IsFound relation side (profiles_behavior (p ∷ [])) (scope_of scope p.architecture) limit finding

      abbrev is_other : Finding → Bool
      is_other finding = not (is_holding finding)

      -- that which speaks for all is true of all
      pub joint_is_true : (findings : List Finding) → AllZip Found profiles findings
          → IsTrueOfAll (joint_finding findings)
      joint_is_true findings each = by_first (find is_failure findings) refl (find is_other findings) refl
        where
          by_first : (first : Option Finding) → find is_failure findings ≡ first → (not_holding : Option Finding)
              → find is_other findings ≡ not_holding → IsTrueOfAll (joint_finding findings)
          by_first (Some finding) first_found not_holding others =
              let at = zip_found Found is_failure profiles findings finding each first_found in
              rw first_found (one_is_true at.0 finding at.1 at.2.holds (failure_is_other finding at.3))
          by_first None first_found (Some finding) others =
              let at = zip_found Found is_other profiles findings finding each others in
              rw (first_found, others) (one_is_true at.0 finding at.1 at.2.holds (other_is_not_holding finding at.3))
          by_first None first_found None others =
              let all : IsTrueOfAll (Holds (fold (λ most finding. max (steps_of finding) most) 0 findings)) = λ call record_is of_one.
              let p = of_one.0 in
              let among = of_one.1 in
              let at = zip_none Found is_other profiles findings among.0 p each among.1 among.2 others in
              let answers = holding_is_related p at.0 at.1.holds at.2 call record_is of_one.2 in record {
                left = answers.left;
                right = answers.right;
                of_left = answers.of_left;
                of_right = answered p call answers.right among record_is of_one.2 answers.of_right;
                are_related = answers.are_related;
              } in
              rw (first_found, others) all
