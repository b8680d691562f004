-- Laws that the trees are given with.
use Rattle.std.specs.Prelude.{◌+◌, ◌*◌, ◌<◌, ◌≤◌, ℕ, List, [], ◌∷◌, Option, None, Some, drop}
use Rattle.std.proofs.Common.{zero, suc, arith}
use Rattle.std.proofs.Math.Nat.{mul-le-mul_left, one-le-pow}
use Rattle.scf_insn.specs.declared.insn.Insn.{Insn}
use Rattle.scf_compare.specs.declared.filter.FilterNode.{FilterNode}
use Rattle.scf_compare.specs.declared.pair.PairKnown.{PairKnown}
use Rattle.scf_compare.specs.declared.pair.PairNode.{PairNode}
use Rattle.scf_compare.specs.declared.pair.PairNode.TheVariants.{AtLeft, AtRight}
use Rattle.scf_compare.specs.declared.registers.KnownRegisters.{KnownRegisters}
use Rattle.scf_compare.specs.declared.stack.StackNode.{StackNode}
use Rattle.scf_compare.specs.declared.stack.StackNode.TheVariants.{Empty, At as InStack}
use Rattle.scf_compare.specs.Sides.{filter_at}
use Rattle.scf_compare.specs.internal.Stacks.{stack_tree}
use Rattle.scf_compare.specs.declared.profile.ProfileNode.{ProfileNode}
use Rattle.scf_compare.specs.declared.profile.ProfileNode.TheVariants.{Answer}
use Rattle.scf_profile.specs.declared.number_rules.NumberRules.{NumberRules}
use Rattle.scf_profile.specs.declared.reason.Reason.TheVariants.{Foreign}
use Rattle.scf_profile.specs.Profile.{Profile}
use Rattle.scf_compare.specs.Effort.{spread, spread_of_all, stack_paths}
use Rattle.scf_compare.specs.internal.Profiles.{profile_tree}
use Rattle.scf_compare.specs.internal.SeveralProfiles.{size_of_later, tree_at}
use Rattle.scf_compare.specs.internal.Filters.{filter_tree}
use Rattle.scf_compare.specs.Paths.{tree_sizes, tree_size}
use Rattle.scf_compare.specs.declared.side.Side.{Side}
use Rattle.scf_compare.specs.Findings.{Compared}
use Rattle.scf_compare.specs.Sides.{behavior_of}
use Rattle.scf_compare.specs.internal.Pairs.{pair_tree}
use Rattle.scf_compare.specs.declared.settling.SettlingNode.{SettlingNode}
use Rattle.scf_compare.specs.Splits.{open_bits}
use Rattle.scf_compare.specs.internal.Settling.{settling_tree, weight}
use Rattle.scf_compare.specs.declared.step.Step.{Step}
use Rattle.scf_compare.specs.declared.step.Step.TheVariants.{Next, Branch, Leaf}
use Rattle.scf_compare.specs.internal.Trees.{Tree, pending_size}
use Rattle.scf_compare.specs.internal.NumberedProfiles.{NumberedProfile}

-- one node and two trees behind it, with the same tree at each of their ends
pub scaled_costs : (a b n scale : ℕ) → a + b + 1 ≤ n → 0 < scale → a * scale + b * scale + 1 ≤ n * scale
scaled_costs a b n scale h s =
    let all : scale * (a + b + 1) ≤ scale * n = mul-le-mul_left scale h in
    omega arith

pub scaled_counts : (a scale : ℕ) → 0 < a → 0 < scale → 0 < a * scale
scaled_counts a scale h s =
    let all : scale * 1 ≤ scale * a = mul-le-mul_left scale h in
    omega arith

pub index_counts : (insns : List Insn) (index : ℕ) → 0 < tree_size insns index
unfolding tree_sizes
index_counts [] index = omega arith
index_counts (i ∷ insns) zero = grind arith
index_counts (i ∷ insns) (suc index) = index_counts insns index

-- each node of a filter's tree counts
pub node_counts : (insns : List Insn) (registers : KnownRegisters) (node : FilterNode)
    → 0 < (filter_tree insns registers).size node
node_counts insns registers node = grind (arith, index_counts)

pub paths_count : (filters : List (List Insn)) → 0 < stack_paths filters
paths_count [] = omega arith
paths_count (filter ∷ filters) =
    scaled_counts (tree_size filter 0) (stack_paths filters) (index_counts filter 0) (paths_count filters)

-- each node of a stack's tree counts
pub stack_node_counts : (filters : List (List Insn)) (registers : KnownRegisters) (node : StackNode)
    → 0 < (stack_tree filters registers).size node
stack_node_counts filters registers Empty = omega arith
stack_node_counts filters registers (InStack index older node) =
    let behind = drop (index + 1) filters in
    scaled_counts _ (stack_paths behind) (node_counts (filter_at filters index) registers node) (paths_count behind)

-- each node of a profile's tree counts
pub profile_node_counts : (s : NumberedProfile) (others : ℕ) → 0 < others → (node : ProfileNode)
    → 0 < (profile_tree s others).size node
profile_node_counts s others some (Answer answer Foreign) = some
profile_node_counts s others some node = grind arith

pub spread_counts : (p : Profile) → 0 < spread p
spread_counts p = omega arith

-- each node of the tree of several profiles counts
pub profiles_node_counts : (profiles : List Profile) (index : ℕ) (numbers : List NumberRules) (asked : Option Profile)
    (node : ProfileNode) → 0 < (tree_at profiles index numbers asked).size node
profiles_node_counts profiles index numbers (Some profile) node =
    let s : NumberedProfile = record { profile = profile; numbers = numbers } in
    profile_node_counts s (size_of_later profiles index) (omega arith) node
profiles_node_counts profiles index numbers None node = omega arith

pub spreads_count : (profiles : List Profile) → 0 < spread_of_all profiles
spreads_count [] = omega arith
spreads_count (p ∷ later) = omega arith

pub side_size_counts : (side : Side) → 0 < (behavior_of side).size
side_size_counts side = grind (arith, paths_count, spread_counts, spreads_count)

-- a pending step counts, where nodes do
pub pending_counts : {N E : Type 0} (tree : Tree N) → ((node : N) → 0 < tree.size node) → (step : Step N E)
    → 0 < pending_size tree step
pending_counts tree counts (Next next) = counts next
pending_counts tree counts (Branch atom if_true if_false) = omega arith
pending_counts tree counts (Leaf leaf) = omega arith

-- each node of a pair counts, where those of both sides do
pub pair_counts : {K M A B : Type 0} (compared : Compared) (left : K → Tree A) (right : M → Tree B)
    → ((known : K) (node : A) → 0 < (left known).size node)
    → ((known : M) (node : B) → 0 < (right known).size node)
    → (known : PairKnown K M B) (node : PairNode A B) → 0 < (pair_tree compared left right known).size node
pair_counts compared left right of_left of_right known (AtLeft node) =
    scaled_counts ((left known.left).size node) (pending_size (right known.right) known.ahead)
    (of_left known.left node) (pending_counts (right known.right) (of_right known.right) known.ahead)
pair_counts compared left right of_left of_right known (AtRight leaf node) = of_right known.right node

-- each node of the second walk counts
pub settling_counts : {N : Type 0} (effort : ℕ) (tree : Tree N) → ((node : N) → 0 < tree.size node)
    → (at : SettlingNode N) → 0 < (settling_tree effort tree).size at
settling_counts effort tree counts at =
    scaled_counts (tree.size at.node) (weight effort at.fixed.words) (counts at.node)
    (one-le-pow (open_bits at.fixed.words) (2 * effort + 1) (omega arith))
