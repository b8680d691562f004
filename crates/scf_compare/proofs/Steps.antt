-- Several steps as one.
use Rattle.scf_compare.proofs.Common.{◌*◌, ◌+◌, ◌<◌, ◌≤◌, ℕ, List, arith, mul-le-mul_left, Step, Tree, common_steps}
use Rattle.scf_compare.specs.declared.step.Step.TheVariants.{Next, Branch, Leaf}
use Rattle.scf_compare.specs.internal.Trees.{IsLaterNode, IsStep, Leaves, pending_size, pending_tree, step_size}

-- a step is pending after it was taken
pending_within : {N E : Type 0} (tree : Tree N) (step : Step N E) (size : ℕ) → step_size tree step + 1 ≤ size
    → pending_size tree step ≤ size
pending_within tree (Next next) size costs = omega arith
pending_within tree (Branch atom if_true if_false) size costs = costs
pending_within tree (Leaf leaf) size costs = omega arith

pub followed : {N E : Type 0} (leaves : Leaves E) (given : List ℕ → Type 0) (here between there : Tree N) (from next : N)
    (first second : Step N E)
    → IsStep leaves given here from between first
    → IsLaterNode given (pending_tree leaves between) first (pending_tree leaves between) (Next next)
    → IsStep leaves given between next there second
    → IsStep leaves given here from there second
followed leaves given here between there from next first second one decided other =
    grind (arith, common_steps, other.leads, decided.reached, one.leads, other.plain, decided.plain, one.plain, pending_within)

pub followed_pending : {N E : Type 0} (leaves : Leaves E) (given : List ℕ → Type 0) (here there : Tree N) (pending : Step N E)
    (next : N) (second : Step N E)
    → IsLaterNode given (pending_tree leaves here) pending (pending_tree leaves here) (Next next)
    → IsStep leaves given here next there second
    → IsStep leaves given (pending_tree leaves here) pending there second
followed_pending leaves given here there pending next second decided other =
    grind (arith, common_steps, other.leads, decided.reached, other.plain, decided.plain)

pub later : {N E : Type 0} (leaves : Leaves E) (given : List ℕ → Type 0) (first : Tree (Step N E)) (here there : Tree N)
    (from between : Step N E) (next : N) (to : Step N E)
    → IsLaterNode given first from (pending_tree leaves here) between
    → IsLaterNode given (pending_tree leaves here) between (pending_tree leaves here) (Next next)
    → IsStep leaves given here next there to
    → IsLaterNode given first from (pending_tree leaves there) to
later leaves given first here there from between next to one decided other =
    grind (arith, common_steps, other.leads, decided.reached, one.reached, other.plain, decided.plain, one.plain, pending_within)

-- and two later nodes, one after the other
pub later_both : {N : Type 0} (given : List ℕ → Type 0) (first between last : Tree N) (from next to : N)
    → IsLaterNode given first from between next → IsLaterNode given between next last to
    → IsLaterNode given first from last to
later_both given first between last from next to one two =
    grind (arith, common_steps, two.reached, one.reached, two.plain, one.plain)

-- what is pending goes on to a node, and that to a later one
pub passed_pending : {N E : Type 0} (leaves : Leaves E) (given : List ℕ → Type 0) (here there : Tree N) (pending : Step N E)
    (next to : N) → IsLaterNode given (pending_tree leaves here) pending (pending_tree leaves here) (Next next)
    → IsLaterNode given here next there to
    → IsLaterNode given (pending_tree leaves here) pending (pending_tree leaves there) (Next to)
passed_pending leaves given here there pending next to decided passed =
    grind (arith, common_steps, passed.reached, decided.reached, passed.plain, decided.plain)

-- a step from a later node to the only next one
pub passed_on : {N E : Type 0} (leaves : Leaves E) (given : List ℕ → Type 0) (first here there : Tree N) (from node next : N)
    → IsLaterNode given first from here node → IsStep leaves given here node there (Next next)
    → IsLaterNode given first from there next
passed_on leaves given first here there from node next later step =
    grind (arith, common_steps, step.leads, later.reached, step.plain, later.plain)

-- a step from a later node
pub stepped : {N E : Type 0} (leaves : Leaves E) (given : List ℕ → Type 0) (here between there : Tree N) (from node : N)
    (step : Step N E) → IsLaterNode given here from between node → IsStep leaves given between node there step
    → IsStep leaves given here from there step
stepped leaves given here between there from node step later one =
    grind (arith, common_steps, one.leads, later.reached, one.plain, later.plain)

-- so many steps before a node, with a tree behind each end
pub scaled_steps : (a steps n scale : ℕ) → a + steps ≤ n → 0 < scale → a * scale + steps ≤ n * scale
scaled_steps a steps n scale h s =
    let all : scale * (a + steps) ≤ scale * n = mul-le-mul_left scale h in
    let each : steps * 1 ≤ steps * scale = mul-le-mul_left steps s in
    omega arith
