-- What relates the answers of two sides, as a filter and a profile, to a syscall.
use Rattle.std.specs.Prelude.{◌≡◌, ℕ}
use Rattle.scf_insn.specs.Answers.{IsNoMorePermissive, disposition_of}
use Rattle.scf_profile.specs.SameAnswers.{AreSame}
use Rattle.scf_profile.specs.declared.relation.Relation.{Relation}
use Rattle.scf_profile.specs.declared.relation.Relation.TheVariants.{Same, NoMore, NoLess, SameDisposition}

-- the left answer is the right one, or is no more permissive, or no less, or both deny, delegate or allow alike
abbrev pub IsRelated : Relation → ℕ → ℕ → Type 0
IsRelated Same left right = AreSame left right
IsRelated NoMore left right = IsNoMorePermissive left right
IsRelated NoLess left right = IsNoMorePermissive right left
IsRelated SameDisposition left right = disposition_of left ≡ disposition_of right
