-- What the program prints of a comparison.
use Rattle.std.specs.Prelude.{ℕ, Bool, true, false, List, [], ◌++◌, codes, length, Option, Some, None, if◌then◌else◌}
use Rattle.std.specs.Global.{Vec}
use Rattle.std.specs.List.{flat_map, join_by}
use Rattle.std.specs.Fmt.{decimal, digits}
use Rattle.scf_insn.specs.declared.answer.Answer.{Answer}
use Rattle.scf_insn.specs.declared.record.CallRecord.{CallRecord}
use Rattle.scf_profile.specs.declared.relation.Relation.{Relation}
use Rattle.scf_profile.specs.declared.relation.Relation.TheVariants as relations
use Rattle.scf_compare.specs.declared.finding.Finding.{Finding}
use Rattle.scf_compare.specs.declared.finding.Finding.TheVariants.{Holds, Fails, Undecided, Unfinished}
use Rattle.scf_compare.specs.Verdicts.{finding_of}
use Rattle.scf_tool.specs.declared.findings.CallFinding.{CallFinding}
use Rattle.scf_tool.specs.declared.findings.ComparisonOutcome.{ComparisonOutcome}
use Rattle.scf_tool.specs.declared.left_out.LeftOut.{LeftOut}
use Rattle.scf_tool.specs.declared.status.Status.{Status}
use Rattle.scf_tool.specs.declared.status.Status.TheVariants.{Success, Differs, Unknown}
use Rattle.scf_tool.specs.declared.verification.Outcome.{Outcome}
use Rattle.scf_tool.specs.JointFindings.{is_holding}
use Rattle.scf_tool.specs.Lines.{answer_text}
use Rattle.scf_tool.specs.VerifyingStacks.{outcome_left_out}

-- 0x and lower-case hexadecimal digits without leading zeros
abbrev pub prefixed : ℕ → List ℕ
prefixed n = codes "0x" ++ digits 16 false n

abbrev pub argument_text : ℕ → List ℕ
argument_text argument = codes " " ++ prefixed argument

-- the line of a call record
abbrev pub call_line : CallRecord → List ℕ
call_line call =
    (codes "call nr " ++ decimal call.nr ++ codes " arch " ++ prefixed call.arch ++ codes " ip " ++ prefixed call.ip
    ++ codes " args")
    ++ (flat_map argument_text call.args ++ codes "\n")

-- who answers, and the answer
abbrev pub answer_line : List ℕ → ℕ → List ℕ
answer_line who answer = (who ++ codes " ") ++ (answer_text answer ++ codes "\n")

-- what is said where a relation holds of all answers, and where it doesn't hold of two
abbrev pub said_of : Relation → List ℕ × List ℕ
said_of relations.Same = (codes "same", codes "differs")
said_of relations.NoMore = (codes "no more", codes "more")
said_of relations.NoLess = (codes "no less", codes "less")
said_of relations.SameDisposition = (codes "same disposition", codes "differs")

-- The names of the sides in the lines, by what was left out of the profiles that they are: filters and a profile,
-- filters and others beside them, a profile and one beside it.
abbrev pub words_of_sides : Option LeftOut → Option LeftOut → List ℕ × List ℕ
words_of_sides (Some left) right = (codes "profile", codes "beside")
words_of_sides None (Some right) = (codes "filter", codes "profile")
words_of_sides None None = (codes "filter", codes "beside")

-- the lines of a finding on a relation; where this fails, what is shown of that follows the word for it
abbrev pub finding_text : Relation → (CallRecord → Answer → Answer → List ℕ) → Finding → List ℕ
finding_text relation shown (Holds steps) = (said_of relation).0 ++ codes "\n"
finding_text relation shown (Fails call left right) = (said_of relation).1 ++ shown call left right
finding_text relation shown (Undecided side at) = codes "undecided at " ++ decimal at ++ codes "\n"
finding_text relation shown Unfinished = codes "unfinished\n"

-- a call, and what two sides with these names answer to it, in lines of their own
abbrev pub lines_of_call : List ℕ × List ℕ → CallRecord → Answer → Answer → List ℕ
lines_of_call words call left right =
    codes "\n" ++ (call_line call ++ (answer_line words.0 left.0 ++ answer_line words.1 right.0))

-- a word and a name
abbrev pub name_line : List ℕ → List ℕ → List ℕ
name_line word name = word ++ codes " " ++ name ++ codes "\n"

-- what was left out of a profile, by these words: a line for each skipped name, and one for each other architecture
abbrev pub left_out_text : List ℕ × List ℕ → Option LeftOut → List ℕ
left_out_text words None = []
left_out_text words (Some left_out) =
    flat_map (name_line words.0) left_out.skipped ++ flat_map (name_line words.1) left_out.other_architectures

abbrev pub length_text : List ℕ → List ℕ
length_text name = codes " " ++ decimal (length name)

-- What stands in front of what is printed of a profile, if that is asked for: the same, and a line that ends it, with
-- the length of each name, which may have newlines in it.
abbrev pub left_out_front : Bool → LeftOut → List ℕ
left_out_front false left_out = []
left_out_front true left_out =
    left_out_text (codes "skipped", codes "other") (Some left_out)
    ++ (codes "left-out skipped" ++ (flat_map length_text left_out.skipped
    ++ (codes " other" ++ (flat_map length_text left_out.other_architectures ++ codes "\n"))))

-- the words for the profile on the right: its own beside another one
abbrev pub words_of_left_out : Option LeftOut → List ℕ × List ℕ
words_of_left_out (Some left) = (codes "beside-skipped", codes "beside-other")
words_of_left_out None = (codes "skipped", codes "other")

-- ---- call by call

-- the arguments of a call and both answers, in the rest of its line
abbrev pub rest_of_line : List ℕ × List ℕ → CallRecord → Answer → Answer → List ℕ
rest_of_line words call left right =
    codes " args" ++ (flat_map argument_text call.args
    ++ ((codes " " ++ words.0 ++ codes " ") ++ (answer_text left.0 ++ (codes " " ++ answer_line words.1 right.0))))

-- the line of a call: its number and its names, with commas between; nothing where the relation holds
abbrev pub named_line : Relation → List ℕ × List ℕ → CallFinding → List ℕ
named_line relation words call =
    if is_holding call.finding then []
    else ((decimal call.number ++ codes " ") ++ (join_by (λ name. name) (codes ",") call.names ++ codes " "))
    ++ finding_text relation (rest_of_line words) call.finding

-- ---- a report

-- The lines of what is found: of the finding on a relation; or of the one that speaks for all calls, and one for each
-- call of which the relation doesn't hold.
abbrev pub findings_text : Relation → List ℕ × List ℕ → Finding → Option (Vec CallFinding) → List ℕ
findings_text relation words joint None = finding_text relation (lines_of_call words) joint
findings_text relation words joint (Some calls) =
    finding_text relation (λ call left right. codes "\n") joint ++ flat_map (named_line relation words) calls.items

-- The lines of an outcome, and those of what was left out of both sides.
abbrev pub report_text : Relation → ComparisonOutcome → List ℕ
report_text relation outcome =
    findings_text relation (words_of_sides outcome.left_out_of_left outcome.left_out) outcome.findings.joint
    outcome.findings.calls ++ (left_out_text (codes "skipped", codes "other") outcome.left_out_of_left
    ++ left_out_text (words_of_left_out outcome.left_out_of_left) outcome.left_out)

-- a verdict is a finding on a profile
abbrev pub outcome_of : Outcome → ComparisonOutcome
outcome_of outcome = record {
  findings = record { joint = finding_of outcome.verdict; calls = None };
  left_out_of_left = None;
  left_out = Some (outcome_left_out outcome);
}

-- the exit status that goes with a finding
abbrev pub finding_status : Finding → Status
finding_status (Holds steps) = Success
finding_status (Fails call left right) = Differs
finding_status finding = Unknown
