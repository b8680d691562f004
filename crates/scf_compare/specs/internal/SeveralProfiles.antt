-- The profiles of several architectures as a tree of questions: each is asked in turn, and the later ones are asked of
-- the calls that aren't of its architecture.
use Rattle.std.specs.Prelude.{◌+◌, ℕ, List, Option, None, Some, All, take, drop, slice_get}
use Rattle.scf_insn.specs.Architectures.{IsOf}
use Rattle.scf_insn.specs.declared.record.CallRecord.{CallRecord}
use Rattle.scf_insn.specs.Words.{call_of}
use Rattle.scf_profile.specs.declared.number_rules.NumberRules.{NumberRules}
use Rattle.scf_profile.specs.NumberRules.{AreNumbersOf}
use Rattle.scf_compare.specs.Masked.{IsMaskedProfile}
use Rattle.scf_profile.specs.Profile.{Profile}
use Rattle.scf_compare.specs.declared.profile.ProfileNode.{ProfileNode}
use Rattle.scf_compare.specs.Effort.{answer_of_none, spread_in_turn}
use Rattle.scf_compare.specs.internal.Profiles.{profile_tree}
use Rattle.scf_compare.specs.internal.Trees.{Tree}

-- a call is of the architecture of none of the profiles before an index
abbrev pub IsOfNoneBefore : List Profile → ℕ → CallRecord → Type 0
IsOfNoneBefore profiles index call = All (λ p. IsOf p.architecture call → ⊥) (take index profiles)

-- what is asked behind the profile at an index of calls that aren't of its architecture: a step, and the later profiles
abbrev pub size_of_later : List Profile → ℕ → ℕ
size_of_later profiles index = 1 + spread_in_turn (answer_of_none profiles) (drop (index + 1) profiles)

-- the tree of the profile at an index with these numbers; behind the last one there is a step, for calls of none
abbrev pub tree_at : List Profile → ℕ → List NumberRules → Option Profile → Tree ProfileNode
tree_at profiles index numbers (Some profile) =
    let tree = profile_tree (record { profile = profile; numbers = numbers }) (size_of_later profiles index) in record {
      is_node = λ node. AreNumbersOf numbers profile.rules × tree.is_node node;
      reaches = λ node words. IsOfNoneBefore profiles index (call_of words) × tree.reaches node words;
      size = tree.size;
      is_plain = λ masks _. All (IsMaskedProfile masks) profiles;
    }
tree_at profiles index numbers None = record {
  is_node = λ _. Unit {0};
  reaches = λ _ words. All (λ p. IsOf p.architecture (call_of words) → ⊥) profiles;
  size = λ _. 1;
  is_plain = λ masks _. All (IsMaskedProfile masks) profiles;
}

-- the tree, for the index of the profile that is asked and its numbers
abbrev pub profiles_tree : List Profile → ℕ → List NumberRules → Tree ProfileNode
profiles_tree profiles index numbers = tree_at profiles index numbers (slice_get profiles index)
