-- The finding that speaks for several, and the findings that a comparison asks for.
use Rattle.std.specs.Prelude.{◌≡◌, ℕ, Bool, true, false, not, List, [], ◌∷◌, find, map, max, Contains, None, Some}
use Rattle.std.specs.Global.{Vec}
use Rattle.std.specs.List.{AllZip, fold}
use Rattle.std.specs.Option.{option_map_or, option_or}
use Rattle.scf_profile.specs.NamedCalls.{AreCallsOf}
use Rattle.scf_profile.specs.Profile.{Profile}
use Rattle.scf_profile.specs.References.{texts_at}
use Rattle.scf_profile.specs.Relation.{IsRelated}
use Rattle.scf_profile.specs.Scope.{IsInScope}
use Rattle.scf_profile.specs.StatedProfile.{Tables}
use Rattle.scf_profile.specs.declared.named_call.NamedCall.{NamedCall}
use Rattle.scf_profile.specs.declared.relation.Relation.{Relation}
use Rattle.scf_profile.specs.declared.scope.Scope.{Scope}
use Rattle.scf_compare.specs.Findings.{Compared, IsTrueFinding}
use Rattle.scf_compare.specs.declared.finding.Finding.{Finding}
use Rattle.scf_compare.specs.declared.finding.Finding.TheVariants.{Holds, Fails}
use Rattle.scf_compare.specs.Sides.{Behavior, profiles_behavior}
use Rattle.scf_request.specs.declared.request.Comparison.{Comparison}
use Rattle.scf_request.specs.declared.request.Scopes.{Scopes}
use Rattle.scf_request.specs.declared.request.Scopes.TheVariants as scopes
use Rattle.scf_tool.specs.ArchitectureScopes.{scope_of, scope_of_call}
use Rattle.scf_tool.specs.Comparisons.{AreFound, IsFound, IsFoundInTurn, limit_of}
use Rattle.scf_tool.specs.Inputs.{behavior_of_input}
use Rattle.scf_tool.specs.declared.findings.CallFinding.{CallFinding}
use Rattle.scf_tool.specs.declared.findings.Findings.{Findings}
use Rattle.scf_tool.specs.declared.sides.SideInput.{SideInput}
use Rattle.scf_tool.specs.declared.sides.SideInput.TheVariants.{Profiles}

abbrev pub is_holding : Finding → Bool
is_holding (Holds steps) = true
is_holding finding = false

abbrev pub is_failure : Finding → Bool
is_failure (Fails call left right) = true
is_failure finding = false

-- the steps of Holds
abbrev pub steps_of : Finding → ℕ
steps_of (Holds steps) = steps
steps_of finding = 0

-- The finding that speaks for several: the first that fails, else the first that doesn't hold, else Holds in the most
-- steps that one of them took.
abbrev pub joint_finding : List Finding → Finding
joint_finding findings = option_map_or (λ finding. finding)
    (option_or (find is_failure findings) (find (λ finding. not (is_holding finding)) findings))
    (Holds (fold (λ most finding. max (steps_of finding) most) 0 findings))

-- What is compared where a side stands beside the profiles of several architectures, each over its records of a scope.
abbrev pub compared_with_each : Relation → Scope → Behavior → List Profile → Compared
compared_with_each relation scope side profiles = record {
  in_scope = λ call. (p : Profile) × Contains profiles p × IsInScope (scope_of scope p.architecture) call;
  related = IsRelated relation;
  left = side;
  right = profiles_behavior profiles;
}

-- ---- what is asked for

-- a call of a table has its number and its names
abbrev pub IsNamedAs : NamedCall → CallFinding → Type 0
IsNamedAs of_table call = (call.number ≡ of_table.number) × (call.names ≡ texts_at of_table.names.items)

-- The findings on two sides and tables, compared as is asked. At once it is one; beside the profiles of several
-- architectures the one that speaks for each over its own records, and it is true of all of them. Call by call each
-- call of the only table has its own, in no more steps than remain of the total, and one speaks for all.
abbrev pub AreFindings : Comparison → Scopes → Bool → Behavior → SideInput → Tables → Findings → Type 0
AreFindings comparison (scopes.AtOnce scope) true left (Profiles loaded) tables findings =
    (findings.calls ≡ None) × (each : List Finding)
    × AllZip (λ p. IsFound comparison.relation left (profiles_behavior (p ∷ []))
    (scope_of scope p.architecture) (limit_of comparison.limits)) loaded.profiles each
    × (findings.joint ≡ joint_finding each)
    × IsTrueFinding (compared_with_each comparison.relation scope left loaded.profiles) findings.joint
AreFindings comparison (scopes.AtOnce scope) of_each left right tables findings =
    (findings.calls ≡ None)
    × IsFound comparison.relation left (behavior_of_input right) scope (limit_of comparison.limits) findings.joint
AreFindings comparison scopes.EachCall of_each left right (table ∷ []) findings =
    (calls : Vec CallFinding) × (findings.calls ≡ Some calls)
    × (of_table : List NamedCall) × AreCallsOf table.1 of_table × AllZip IsNamedAs of_table calls.items × (after : ℕ)
    × AreFound (λ remaining call. IsFoundInTurn comparison.relation left (behavior_of_input right)
    (scope_of_call table.0 call.number) (limit_of comparison.limits) remaining)
    comparison.limits.total of_table (map (λ call. call.finding) calls.items) after
    × (findings.joint ≡ joint_finding (map (λ call. call.finding) calls.items))
AreFindings comparison scopes.EachCall of_each left right tables findings =
    (calls : Vec CallFinding) × (findings.calls ≡ Some calls) × (calls.items ≡ [])
    × (findings.joint ≡ Holds 0)
