-- Comparisons of sides in the caller's bytes, and their findings as numbers.
use Rattle.std.specs.Prelude.{◌≡◌, ◌⊎◌, ◌≤◌, ℕ, List, [], ◌∷◌, None, Some, false, length, map}
use Rattle.std.specs.List.{zip}
use Rattle.scf_profile.specs.declared.relation.Relation.{Relation}
use Rattle.scf_profile.specs.declared.scope.Scope.{Scope}
use Rattle.scf_profile.specs.declared.scope.Scope.TheVariants.{Numbers}
use Rattle.scf_compare.specs.declared.finding.Finding.{Finding}
use Rattle.scf_compare.specs.declared.finding.Finding.TheVariants.{Holds, Fails, Undecided, Unfinished}
use Rattle.scf_compare.specs.declared.finding.Which.{Which}
use Rattle.scf_compare.specs.declared.finding.Which.TheVariants.{Left, Right}
use Rattle.scf_compare.specs.Limits.{limit_of_steps}
use Rattle.scf_tool.specs.Comparisons.{AreFoundEach}
use Rattle.scf_tool.specs.Inputs.{left_out_of_input}
use Rattle.scf_tool.specs.JointFindings.{joint_finding}
use Rattle.scf_tool.specs.Reports.{report_text}
use Rattle.scf_tool.specs.declared.plan.Pairing.{Pairing}
use Rattle.scf_tool.specs.declared.sides.SideInput.{SideInput as ReadSide}
use Rattle.scf_tool.specs.declared.verify_fault.SideFault.{SideFault}
use Rattle.scf_tool.specs.declared.verify_fault.VerifyFault.{VerifyFault}
use Rattle.scf_tool.specs.declared.verify_fault.VerifyFault.TheVariants.{Memory}
use Rattle.scf_c.specs.declared.comparison.Compared.{Compared}
use Rattle.scf_c.specs.declared.layout.Comparison.{Comparison}
use Rattle.scf_c.specs.declared.layout.FindingNumbers.{FindingNumbers}
use Rattle.scf_c.specs.declared.layout.Question.{Question}
use Rattle.scf_c.specs.declared.layout.RecordsComparison.{RecordsComparison}
use Rattle.scf_c.specs.declared.layout.SideInput.{SideInput}
use Rattle.scf_c.specs.declared.layout.Table.{Table}
use Rattle.scf_c.specs.declared.question.Asked.{Asked}
use Rattle.scf_c.specs.declared.question.Over.{Over}
use Rattle.scf_c.specs.declared.question.Over.TheVariants.{EachCall}
use Rattle.scf_c.specs.Architectures.{architecture_number}
use Rattle.scf_c.specs.Layout.{call_of, no_call}
use Rattle.scf_c.specs.Profiles.{nothing_left_out}
use Rattle.scf_c.specs.Records.{ArePaired, AreRecordsRefused, tables_in_scope}
use Rattle.scf_c.specs.Sides.{IsRead, IsSideRefused, fault_of_right, left_out_of_side}

-- ---- as numbers

abbrev pub no_finding : FindingNumbers
no_finding = record { verdict = 0; left = 0; right = 0; side = 0; at = 0; call = no_call }

abbrev pub side_number : Which → ℕ
side_number Left = 1
side_number Right = 2

-- a finding as numbers: the verdict, and what Fails and Undecided show
abbrev pub numbers_of : Finding → FindingNumbers
numbers_of (Holds steps) = record { verdict = 1; left = 0; right = 0; side = 0; at = 0; call = no_call }
numbers_of (Fails call left right) =
    record { verdict = 2; left = left.0; right = right.0; side = 0; at = 0; call = call_of call }
numbers_of (Undecided side at) =
    record { verdict = 3; left = 0; right = 0; side = side_number side; at = at; call = no_call }
numbers_of Unfinished = record { verdict = 4; left = 0; right = 0; side = 0; at = 0; call = no_call }

-- the number of the architecture whose records a scope has, 0 if it has more
abbrev pub number_of : Scope → ℕ
number_of (Numbers architecture first last) = architecture_number architecture
number_of scope = 0

-- the number of the only syscall whose records a scope has, as they have it, if syscalls are compared one by one, and
-- else 0
abbrev pub nr_of : Over → Scope → ℕ
nr_of EachCall (Numbers architecture first last) = first
nr_of over scope = 0

abbrev pub of_scope : Over → Scope → Finding → RecordsComparison
of_scope over scope finding = record {
  architecture = number_of scope;
  nr = nr_of over scope;
  finding = numbers_of finding;
  reserved = 0 ∷ 0 ∷ 0 ∷ 0 ∷ [];
}

-- of each
abbrev pub of_each : Over → List Pairing → List Finding → List RecordsComparison
of_each over pairings findings =
    map (λ (found : Pairing × Finding). of_scope over found.0.over found.1) (zip pairings findings)

-- of all
abbrev pub comparison_of : Finding → ReadSide → ReadSide → Comparison
comparison_of finding left right = record {
  finding = numbers_of finding;
  left_out_of_left = left_out_of_side left;
  left_out_of_right = left_out_of_side right;
}

abbrev pub no_comparison : Comparison
no_comparison =
    record { finding = no_finding; left_out_of_left = nothing_left_out; left_out_of_right = nothing_left_out }

-- the printed lines of a finding on filters and a right side
abbrev pub text_of : Relation → ReadSide → Finding → List ℕ
text_of relation right finding = report_text relation (record {
  findings = record { joint = finding; calls = None };
  left_out_of_left = None;
  left_out = left_out_of_input right;
})

-- ---- a comparison

-- Both sides are read, and compared over the records that are asked for; this is handed out.
pub record IsCompared (question : Question) (left right : SideInput) (tables : List Table) (asked : Asked)
    (compared : Compared) : Type 0 where
  pub left_side : ReadSide
  pub right_side : ReadSide
  pub pairings : List Pairing
  pub findings : List Finding
  pub is_left : IsRead left asked.left tables left_side
  pub is_right : IsRead right asked.right tables right_side
  pub are_paired : ArePaired asked.over left_side right_side tables pairings
  pub some : 1 ≤ length pairings
  pub are_found : AreFoundEach asked.relation (limit_of_steps question.limit) (Some question.total_limit) pairings
      findings
  pub comparison_is : compared.comparison ≡ comparison_of (joint_finding findings) left_side right_side
  pub each_is : compared.each.items ≡ of_each asked.over pairings findings
  pub text_is : compared.text.items ≡ text_of asked.relation right_side (joint_finding findings)

-- Both sides are read, and there is no record: no table counts, or none of those that count has a syscall.
pub record IsOverNone (left right : SideInput) (tables : List Table) (asked : Asked) : Type 0 where
  pub left_side : ReadSide
  pub right_side : ReadSide
  pub pairings : List Pairing
  pub is_left : IsRead left asked.left tables left_side
  pub is_right : IsRead right asked.right tables right_side
  pub are_paired : ArePaired asked.over left_side right_side tables pairings
  pub none : length pairings ≡ 0

-- Why they aren't compared: the first fault of the left side, of the right one, or of a table; or out of memory, which
-- may come at any time.
abbrev pub IsComparisonRefused : SideInput → SideInput → List Table → Asked → SideFault → Type 0
IsComparisonRefused left right tables asked why =
    (why ≡ record { beside = false; why = Memory })
    ⊎ (((of_left : VerifyFault) × IsSideRefused left asked.left tables of_left
    × (why ≡ record { beside = false; why = of_left }))
    ⊎ ((left_side : ReadSide) × IsRead left asked.left tables left_side
    × (((of_right : VerifyFault) × IsSideRefused right asked.right tables of_right
    × (why ≡ fault_of_right asked.left asked.right of_right))
    ⊎ ((right_side : ReadSide) × IsRead right asked.right tables right_side
    × ((of_table : VerifyFault) × AreRecordsRefused (tables_in_scope left_side right_side tables) of_table
    × (why ≡ record { beside = false; why = of_table }))))))
