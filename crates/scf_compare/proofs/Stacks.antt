-- The filters of a stack by their indices.
use Rattle.std.specs.Prelude.{IfNone, int_lt}
use Rattle.std.proofs.lemmas.Int.{ints}
use Rattle.scf_insn.specs.Answers.{rank_of}
use Rattle.scf_insn.specs.Kernel.{seccomp_ret_allow}
use Rattle.scf_machine.proofs.Stacks.{empty_allows, one_more, one_more_gives}
use Rattle.scf_machine.specs.declared.stack.DecidingInsn.{DecidingInsn}
use Rattle.scf_compare.specs.Sides.{AnswersFrom, CanEndAt, FilterGives, StackCanEndAt, StackIsOpenAt, origin_index}
use Rattle.scf_compare.specs.declared.origin.Origin.{Origin}
use Rattle.scf_compare.specs.declared.origin.Origin.TheVariants.{Filter, Profile as OfReason}
use Rattle.scf_compare.specs.Leaves.{SideTells}
use Rattle.scf_compare.specs.internal.Stacks.{FirstAnswer, IsEndAt, NextAnswers}
use Rattle.scf_compare.proofs.Common.{EndsAt, EndsWith, Contains, StackAnswers, false, true, FilterLeaf, None, Some, IsSideLeaf, Operation, SideLeaf, control_flow_at, refl, stack_behavior, ◌≡◌, ◌⊎◌, ℕ, ◌+◌, ◌*◌, ◌-◌, ◌<◌, ◌≤◌, List, [], ◌∷◌, length, drop, arith, Option, IfSome, slice_get-get_or, Answer, Insn, stack_paths, tree_size, IsFilterEnd, IsStackLeaf, filter_at, common_steps}
use Rattle.scf_compare.proofs.Rules.{contains_here, drop_here}
use Rattle.scf_insn.specs.declared.operation.Arithmetic.TheVariants.{Div}
use Rattle.scf_insn.specs.declared.operation.Operand.TheVariants.{Index}
use Rattle.scf_insn.specs.declared.operation.Operation.TheVariants.{Compute, ReturnConstant, ReturnAccumulator}

-- a leaf of the filter at an index, as one of the stack
abbrev pub leaf_at : ℕ → FilterLeaf → SideLeaf
leaf_at index leaf = record { answer = leaf.answer; origin = Filter index leaf.at }

-- an end of one of the filters is an end of the stack
pub is_stack_leaf : (filters : List (List Insn)) (index : ℕ) (leaf : FilterLeaf) → index < length filters
    → IsFilterEnd (filter_at filters index) leaf → IsStackLeaf filters (leaf_at index leaf)
is_stack_leaf [] index leaf inside of_filter = absurd (omega arith)
is_stack_leaf (oldest ∷ newer) index leaf inside of_filter = (inside, of_filter)

-- the trees from an index on begin with that of the filter there
pub paths_from : (filters : List (List Insn)) (index : ℕ) → index < length filters
    → stack_paths (drop index filters) ≡ tree_size (filter_at filters index) 0 * stack_paths (drop (index + 1) filters)
paths_from filters index inside =
    grind (arith, drop_here filters index (filter_at filters index) (slice_get-get_or filters index [] inside))

-- and those from the index before it, the product that a loop from the newest filter on goes on with
pub paths_before : (filters : List (List Insn)) (index : ℕ) → 0 < index → index ≤ length filters
    → stack_paths (drop (index - 1) filters)
    ≡ tree_size (filter_at filters (index - 1)) 0 * stack_paths (drop index filters)
paths_before filters index some within =
    let inside : index - 1 < length filters = omega arith in grind (arith, paths_from filters (index - 1) inside)

-- ---- what gives the answer

-- no answer has a greater rank than ALLOW
most_permissive : (answer : ℕ) → int_lt (rank_of seccomp_ret_allow) (rank_of answer) ≡ false
most_permissive answer = grind (arith, common_steps, ints)

-- the first filter decides alone
first_gives : (filters : List (List Insn)) (words : List ℕ) (at answer : ℕ) → 0 < length filters
    → EndsAt (filter_at filters 0) words at answer → FirstAnswer filters 1 (Filter 0 at) words answer
first_gives filters words at answer some ends =
    let least = most_permissive answer in (
      rw least at (one_more filters 0 [] words seccomp_ret_allow answer some (empty_allows words) ends.0),
      rw least at (one_more_gives filters 0 [] words None seccomp_ret_allow at answer some (refl, refl) ends),
    )

pub first_decides : (filters : List (List Insn)) (index : ℕ) (words : List ℕ) (leaf : SideLeaf)
    → index < length filters → index ≡ 0 → SideTells (NextAnswers filters index) leaf words
    → SideTells (FirstAnswer filters (index + 1)) leaf words
first_decides filters index words leaf inside first run = rw first (by_leaf leaf.answer leaf.origin (rw first at run))
  where
    by_leaf : (answer : Option Answer) (origin : Origin) → IfSome answer (λ a. NextAnswers filters 0 origin words a.0)
        → IfSome answer (λ a. FirstAnswer filters 1 origin words a.0)
    by_leaf None origin run = tt
    by_leaf (Some answer) (OfReason reason) run = absurd run
    by_leaf (Some answer) (Filter filter at) run =
        rw run.0 (first_gives filters words at answer.0 (omega (arith, inside)) run.1)

-- one filter more, the newest: the older ones decide if its answer has a greater rank, and else it does
module _ (filters : List (List Insn)) (index : ℕ) (words : List ℕ) (inside : index < length filters) where
  pub older_decide : (origin newer : Origin) (first last : ℕ) → int_lt (rank_of first) (rank_of last) ≡ true
      → FirstAnswer filters index origin words first → NextAnswers filters index newer words last
      → FirstAnswer filters (index + 1) origin words first
  older_decide (OfReason reason) newer first last less older next = absurd older.1
  older_decide (Filter filter at) (OfReason reason) first last less older next = absurd next
  older_decide (Filter filter at) (Filter other end) first last less older next =
      let by : DecidingInsn = record { filter = filter; index = at } in (
        rw less at (one_more filters index [] words first last inside older.0 next.1.0),
        rw less at (one_more_gives filters index [] words (Some by) first end last inside older.1 next.1),
      )

  pub newest_decides : (origin newer : Origin) (first last : ℕ) → int_lt (rank_of first) (rank_of last) ≡ false
      → FirstAnswer filters index origin words first → NextAnswers filters index newer words last
      → FirstAnswer filters (index + 1) newer words last
  newest_decides (OfReason reason) newer first last least older next = absurd older.1
  newest_decides (Filter filter at) (OfReason reason) first last least older next = absurd next
  newest_decides (Filter filter at) (Filter other end) first last least older next =
      let by : DecidingInsn = record { filter = filter; index = at } in
      rw next.0 (
        rw least at (one_more filters index [] words first last inside older.0 next.1.0),
        rw least at (one_more_gives filters index [] words (Some by) first end last inside older.1 next.1),
      )

-- what all filters decide is what the stack answers
pub all_decide : (filters : List (List Insn)) (leaf : SideLeaf) (words : List ℕ) → 0 < length filters
    → SideTells (λ origin words answer. StackAnswers filters words answer × FilterGives filters origin words answer) leaf words
    → SideTells (AnswersFrom (stack_behavior filters)) leaf words
all_decide [] leaf words some tells = absurd (omega (arith, some))
all_decide (oldest ∷ newer) leaf words some tells = tells

-- the end of a filter's run, as the stack tells it
pub next_tells : (filters : List (List Insn)) (index : ℕ) (leaf : FilterLeaf) (words : List ℕ)
    → IfSome leaf.answer (λ answer. EndsAt (filter_at filters index) words leaf.at answer.0)
    → SideTells (NextAnswers filters index) (leaf_at index leaf) words
next_tells filters index leaf words ends = grind (arith, common_steps)

-- ---- where a stack ends

-- where a run ends, one can end
ending : (operation : Operation) (i : Insn) (at : ℕ) (answer : Option Answer)
    → EndsWith (control_flow_at operation i at) i answer
    → (operation ≡ ReturnConstant) ⊎ (operation ≡ ReturnAccumulator) ⊎ (operation ≡ Compute Div Index)
ending operation i at answer ends = grind arith

-- only what it returns from the accumulator isn't known
open_ending : (operation : Operation) (i : Insn) (at : ℕ) → EndsWith (control_flow_at operation i at) i None
    → operation ≡ ReturnAccumulator
open_ending operation i at ends = grind arith

open_at : (filters : List (List Insn)) (one : List Insn) (at : ℕ) (answer : Option Answer) → Contains filters one
    → IsFilterEnd one (record { answer = answer; at = at }) → IfNone answer (StackIsOpenAt filters at)
open_at filters one at None contains ends =
    let returns = open_ending ends.operation ends.insn at ends.ends in
    (one, contains, record { insn = ends.insn; stands = rw returns at ends.stands })
open_at filters one at (Some answer) contains ends = tt

can_end : {one : List Insn} {at : ℕ} {answer : Option Answer} → IsFilterEnd one (record { answer = answer; at = at })
    → CanEndAt one at
can_end {at = at} {answer = answer} ends = record {
  insn = ends.insn;
  operation = ends.operation;
  stands = ends.stands;
  ends = ending ends.operation ends.insn at answer ends.ends;
}

end_of : (oldest : List Insn) (newer : List (List Insn)) (origin : Origin) (answer : Option Answer)
    → IsEndAt (oldest ∷ newer) origin answer
    → StackCanEndAt (oldest ∷ newer) (origin_index origin)
    × IfNone answer (StackIsOpenAt (oldest ∷ newer) (origin_index origin))
end_of oldest newer (Filter filter index) answer (inside, ends) =
    let filters = oldest ∷ newer in
    let here = contains_here filters filter _ (slice_get-get_or filters filter [] inside) in
    ((_, here, can_end ends), open_at filters _ index answer here ends)
end_of oldest newer (OfReason reason) answer is = absurd is

-- an end of one of the filters is a leaf of the stack as a side
pub side_leaf : (filters : List (List Insn)) (leaf : SideLeaf) → IsStackLeaf filters leaf
    → IsSideLeaf (stack_behavior filters) leaf
side_leaf [] leaf is = rw is (refl, tt)
side_leaf (oldest ∷ newer) leaf is = end_of oldest newer leaf.origin leaf.answer is
