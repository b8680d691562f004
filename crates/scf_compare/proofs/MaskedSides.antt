-- Sides whose tests are of words, or of words under masks.
use Rattle.scf_facts.proofs.MaskLaws.{at_bit, each_bit, under_power}
use Rattle.scf_insn.specs.Words.{low, high}
use Rattle.scf_profile.specs.NumberTests.{test_by, test_of}
use Rattle.scf_profile.specs.PlainProfile.{IsPlainProfile}
use Rattle.scf_profile.specs.declared.condition.Condition.{Condition}
use Rattle.scf_profile.specs.declared.condition.Operator.{Operator}
use Rattle.scf_profile.specs.declared.condition.Operator.TheVariants.{Equal, MaskedEqual, NotEqual}
use Rattle.scf_compare.proofs.Bits.{whole_word}
use Rattle.scf_compare.proofs.Common.{◌≡◌, ◌<◌, ◌^◌, ◌+◌, ◌≤◌, ◌∙◌, ℕ, All-contains, Bool, ◌%◌, ◌*◌, ◌/◌, div-one, get_or, mod-eq_of_lt, Insn, IsPlainInsn, IsPlainProgram, List, Tree, and_comm, and_zero_r, arith, bit_and, false, inl, inr, refl, true}
use Rattle.scf_facts.proofs.Common.{same_from_bits}
use Rattle.scf_compare.proofs.Rules.{contains_here}
use Rattle.scf_compare.specs.Masked.{IsMaskOf, IsMaskedCondition, IsMaskedProfile, IsMaskedProgram}
use Rattle.scf_compare.specs.Sides.{IsMaskedSide, IsPlainSide}
use Rattle.scf_compare.specs.declared.bit_slice.BitSlice.{BitSlice}
use Rattle.scf_compare.specs.internal.BitSlices.{IsMaskedSlice}
use Rattle.scf_compare.specs.declared.filter.FilterLeaf.{FilterLeaf}
use Rattle.scf_compare.specs.declared.filter.FilterNode.{FilterNode}
use Rattle.scf_compare.specs.declared.side.Side.{Side}
use Rattle.scf_compare.specs.declared.side.Side.TheVariants.{Stack, Profiles}
use Rattle.scf_compare.specs.declared.step.Step.{Step}
use Rattle.scf_compare.specs.declared.value.Decision.{Decision}
use Rattle.scf_compare.specs.declared.value.Decision.TheVariants.{Known as Decided, Asks, Open}
use Rattle.scf_compare.specs.declared.value.Value.{Value}
use Rattle.scf_compare.specs.declared.value.Value.TheVariants.{Known, Slice, Affine, Computed}
use Rattle.scf_compare.specs.internal.Conditions.{HasMasksOf}
use Rattle.scf_compare.specs.internal.Filters.{IsStepOf}
use Rattle.scf_compare.specs.internal.Trees.{Costs, IsProper, StaysPlain}
use Rattle.scf_compare.specs.internal.Values.{IsMaskedValue, IsPlainDecision, IsTestDecision}

-- two masks one behind the other
pub mask_of_both : (masks m v : ℕ) → v < 2 ^ 32 → IsMaskOf masks m → IsMaskOf masks v → IsMaskOf masks (bit_and m v)
mask_of_both masks m v fits (inl (inl none)) of_v = inl (inl (grind (arith, none, and_comm, and_zero_r)))
mask_of_both masks m v fits (inl (inr (inl (k, within, one)))) of_v = elim (under_power v m (k, one)) [
  | inl lacks ↦ inl (inl (and_comm m v ∙ lacks))
  | inr has ↦ inl (inr (inl (k, within, and_comm m v ∙ has ∙ one)))
]
mask_of_both masks m v fits (inl (inr (inr all))) of_v =
    let same : bit_and m v ≡ v = grind (arith, all, and_comm, whole_word v fits) in rw same of_v
mask_of_both masks m v fits (inr among) of_v =
    inr (same_from_bits _ _ (λ i. grind (arith, each_bit, at_bit i among)))

pub masked_and : (masks : ℕ) (bit_slice : BitSlice) (v : ℕ) → v < 2 ^ 32 → IsMaskedSlice masks bit_slice → IsMaskOf masks v
    → IsMaskedSlice masks (record {
      word = bit_slice.word;
      mask = bit_and bit_slice.mask (v / 2 ^ bit_slice.left * 2 ^ bit_slice.right % 2 ^ 32);
      right = bit_slice.right;
      left = bit_slice.left;
    })
masked_and masks bit_slice v fits is of_v =
    let same : v / 2 ^ bit_slice.left * 2 ^ bit_slice.right % 2 ^ 32 ≡ v =
    rw (is.left, is.right) (grind (arith, div-one, mod-eq_of_lt)) in
    record {
      right = is.right;
      left = is.left;
      mask = rw same (mask_of_both masks bit_slice.mask v fits is.mask of_v);
    }

-- what may be in the accumulator may still be where it may be under a mask too
pub carried : (masks : ℕ) (from to : Bool) (value : Value) → (from ≡ true → to ≡ true) → IsMaskedValue masks from value
    → IsMaskedValue masks to value
carried masks from to (Known value) goes is = tt
carried masks true true (Slice bit_slice) goes is = is
carried masks true false (Slice bit_slice) goes is = absurd (let no = goes refl in cc)
carried masks false to (Slice bit_slice) goes is = (is.0, λ _. is.1 refl)
carried masks from to (Affine term) goes is = absurd is
carried masks from to (Computed computed) goes is = absurd is

-- the step of a test that is decided or asked
pub by_decision : (tree : Tree FilterNode) (tells_all : FilterLeaf → Type 0) (masks : ℕ) (decision : Decision)
    (if_true if_false : FilterNode) (step : Step FilterNode FilterLeaf) → IsStepOf decision if_true if_false step
    → IsPlainDecision masks decision → tree.is_plain masks if_true → tree.is_plain masks if_false
    → StaysPlain tree tells_all masks step
by_decision tree tells_all masks (Decided true) if_true if_false step is plain first second = rw is first
by_decision tree tells_all masks (Decided false) if_true if_false step is plain first second = rw is second
by_decision tree tells_all masks (Asks atom true) if_true if_false step is plain first second =
    rw is (plain, first, second)
by_decision tree tells_all masks (Asks atom false) if_true if_false step is plain first second =
    rw is (plain, second, first)
by_decision tree tells_all masks (Open test) if_true if_false step is plain first second = absurd plain

pub proper_by : (tree : Tree FilterNode) (is_leaf : FilterLeaf → Type 0) (decision : Decision)
    (if_true if_false : FilterNode) (step : Step FilterNode FilterLeaf) → IsStepOf decision if_true if_false step
    → IsTestDecision decision → tree.is_node if_true → tree.is_node if_false → IsProper tree is_leaf step
proper_by tree is_leaf (Decided true) if_true if_false step is asks first second = rw is first
proper_by tree is_leaf (Decided false) if_true if_false step is asks first second = rw is second
proper_by tree is_leaf (Asks atom true) if_true if_false step is asks first second = rw is (asks, first, second)
proper_by tree is_leaf (Asks atom false) if_true if_false step is asks first second = rw is (asks, second, first)
proper_by tree is_leaf (Open test) if_true if_false step is asks first second = rw is (tt, first, second)

pub costs_by : (tree : Tree FilterNode) (decision : Decision) (if_true if_false : FilterNode)
    (step : Step FilterNode FilterLeaf) (size : ℕ) → IsStepOf decision if_true if_false step
    → tree.size if_true + tree.size if_false + 1 ≤ size → Costs tree step size
costs_by tree (Decided true) if_true if_false step size is within = rw is (omega (arith, within))
costs_by tree (Decided false) if_true if_false step size is within = rw is (omega (arith, within))
costs_by tree (Asks atom true) if_true if_false step size is within = rw is within
costs_by tree (Asks atom false) if_true if_false step size is within = rw is (omega (arith, within))
costs_by tree (Open test) if_true if_false step size is within = rw is within

-- of a condition under masks so is the test
pub masked_test : (masks : ℕ) (c : Condition) → IsMaskedCondition masks c → HasMasksOf masks (test_of c).0
masked_test masks c masked = by_operator c.op c.value c.value_two masked
  where
    by_operator : (op : Operator) (value value_two : ℕ)
        → (op ≡ MaskedEqual → IsMaskOf masks (low value) × IsMaskOf masks (high value))
        → HasMasksOf masks (test_by op value value_two).0
    by_operator NotEqual value value_two masked = (inl (inr (inr refl)), inl (inr (inr refl)))
    by_operator Equal value value_two masked = (inl (inr (inr refl)), inl (inr (inr refl)))
    by_operator MaskedEqual value value_two masked = ((masked refl).1, (masked refl).0)
    by_operator op value value_two masked = tt

-- ---- plain sides are masked, whatever the masks

plain_program : (masks : ℕ) (insns : List Insn) → IsPlainProgram insns → IsMaskedProgram masks insns
plain_program masks insns plain = record {
  under = λ _. false;
  each = λ at i operation stands.
      let insn = All-contains IsPlainInsn insns i plain (contains_here insns at i stands.here) in
      let known = stands.known in
      let same = insn.known in
      let is = insn.plain in
      grind arith;
}

plain_rules : (masks : ℕ) (p : Rattle.scf_profile.specs.Profile.Profile) → IsPlainProfile p → IsMaskedProfile masks p
plain_rules masks p plain = λ k d lt. record {
  conditions = λ j e within.
      λ is. let simple = (plain k d lt).conditions j e within is in (inl simple.0, inl simple.1);
}

pub plain_side : (masks : ℕ) (side : Side) → IsPlainSide side → IsMaskedSide masks side
plain_side masks (Stack filters) plain = λ k d lt. plain_program masks _ (plain k d lt)
plain_side masks (Profiles profiles) plain = λ k d lt. plain_rules masks (get_or profiles.now k d) (plain k d lt)
