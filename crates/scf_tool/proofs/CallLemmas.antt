-- Comparisons one after another, and the calls of a table.
use Rattle.std.proofs.Common.{◌≡◌, ◌+◌, ◌<◌, ◌++◌, ◌∙◌, ℕ, List, [], ◌∷◌, Bor, Contains, ap, arith, get_or, length, map, refl, subst, take}
use Rattle.std.proofs.Math.ListN.{get_or-map}
use Rattle.std.proofs.lemmas.List.{length-map}
use Rattle.std.proofs.lemmas.List.Elements.{All-contains}
use Rattle.scf_compile.proofs.Common.{take_more}
use Rattle.scf_profile.specs.NamedCalls.{AreCallsOf, HasItsNames}
use Rattle.scf_profile.specs.Table.{Names}
use Rattle.scf_profile.specs.declared.named_call.NamedCall.{NamedCall}
use Rattle.scf_tool.specs.Comparisons.{AreFound}

-- one finding more
one_finding_more : {A F : Type 0} (IsNext : ℕ → A → F → ℕ → Type 0) (remaining : ℕ)
    (several : List A) (findings : List F) (between : ℕ) (last : A) (finding : F) (after : ℕ)
    → AreFound IsNext remaining several findings between → IsNext between last finding after
    → AreFound IsNext remaining (several ++ last ∷ []) (findings ++ finding ∷ []) after
one_finding_more IsNext remaining [] [] between last finding after before here =
    (after, subst (λ (m : ℕ). IsNext m last finding after) before here, refl)
one_finding_more IsNext remaining [] (f ∷ findings) between last finding after before here = absurd before
one_finding_more IsNext remaining (first ∷ several) [] between last finding after before here = absurd before
one_finding_more IsNext remaining (first ∷ several) (f ∷ findings) between last finding after before here = (
  before.0,
  before.1,
  one_finding_more IsNext before.0 several findings between last finding after before.2 here,
)

-- the finding of the next of several
pub next_found : {A F : Type 0} (IsNext : ℕ → A → F → ℕ → Type 0) (remaining : ℕ)
    (several : List A) (i : ℕ) (d : A) (findings : List F) (between : ℕ) (finding : F) (after : ℕ)
    (findings_after : List F) → i < length several → AreFound IsNext remaining (take i several) findings between
    → IsNext between (get_or several i d) finding after → findings_after ≡ findings ++ finding ∷ []
    → AreFound IsNext remaining (take (i + 1) several) findings_after after
next_found IsNext remaining several i d findings between finding after findings_after lt before here is =
    rw (take_more several i d lt, is)
    (one_finding_more IsNext remaining (take i several) findings between (get_or several i d) finding after before here)

-- ---- the calls of a table

contains_mapped : {A B : Type 0} (f : A → B) (xs : List A) (x : A) → Contains xs x → Contains (map f xs) (f x)
contains_mapped f xs x (k, lt, is) = (
  k,
  omega (arith, lt, length-map xs f),
  get_or-map f xs k x ∙ ap f is,
)

module _ (table : Names) (calls : List NamedCall) (call : NamedCall) (are : AreCallsOf table calls)
    (among : Contains calls call) where
  pub has_its_names : HasItsNames table call
  has_its_names = All-contains (HasItsNames table) calls call are.names among

  -- one has a name
  pub has_name : 0 < length call.names.items
  has_name =
      let named = (are.exact call.number).0 (contains_mapped (λ (c : NamedCall). c.number) calls call among) in
      let contained = (has_its_names.exact named.0).1 named.1 in
      omega (arith, contained.1, length-map call.names.items (λ (text : Bor (List ℕ)). text.now))
