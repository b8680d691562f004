-- The second walk: what a step counts.
use Rattle.std.proofs.Math.Nat.{one-le-pow, pow-le-pow_right}
use Rattle.std.proofs.lemmas.Grind.{pow_more}
use Rattle.scf_facts.specs.declared.bits.Bits.{Bits}
use Rattle.scf_compare.proofs.Common.{◌≡◌, ◌+◌, ◌-◌, ◌*◌, ◌<◌, ◌≤◌, ◌^◌, ℕ, List, Bool, Some, arith, false, mul-le-mul_left, scaled_costs, true}
use Rattle.scf_compare.proofs.Common.{AreWordsIn, Branch, Compared, Tree, atom_answer}
use Rattle.scf_compare.specs.Splits.{HaveBits, bit_is_set, open_bits}
use Rattle.scf_compare.specs.declared.settling.SettlingNode.{SettlingNode}
use Rattle.scf_compare.specs.internal.Leaves.{pair_leaves}
use Rattle.scf_compare.specs.internal.Settling.{StartsAt, settling_trees, weight}
use Rattle.scf_compare.specs.internal.Trees.{IsStep}

pub weight_counts : (effort lacks : ℕ) → 0 < (2 * effort + 1) ^ lacks
weight_counts effort lacks = one-le-pow lacks (2 * effort + 1) (omega arith)

two_of : (effort x set clear more : ℕ) → effort * set ≤ effort * x → effort * clear ≤ effort * x → 0 < x
    → more ≡ x * (2 * effort + 1) → effort * set + effort * clear + 1 ≤ more
two_of effort x set clear more first second counts is =
    let all : x * (2 * effort + 1) ≡ 2 * (effort * x) + x = omega arith in
    omega arith

-- A step counts more than two walks of the whole tree with one bit more each.
pub two_walks : (effort lacks set clear : ℕ) → set < lacks → clear < lacks
    → effort * (2 * effort + 1) ^ set + effort * (2 * effort + 1) ^ clear + 1 ≤ (2 * effort + 1) ^ lacks
two_walks effort lacks set clear first second =
    let base = 2 * effort + 1 in
    let fewer = lacks - 1 in
    let whole : lacks ≡ fewer + 1 = omega arith in
    let below = λ (some : ℕ) (less : some < lacks).
    let within : base ^ some ≤ base ^ fewer = pow-le-pow_right (omega arith) (omega arith) in
    mul-le-mul_left effort within in
    rw whole (two_of effort (base ^ fewer) (base ^ set) (base ^ clear) (base ^ (fewer + 1)) (below set first)
    (below clear second) (weight_counts effort fewer) (pow_more base fewer))

-- a step costs as often as it counts where bits are fixed
pub settled_costs : (a b n effort : ℕ) (fixed : List Bits) → a + b + 1 ≤ n
    → a * weight effort fixed + b * weight effort fixed + 1 ≤ n * weight effort fixed
settled_costs a b n effort fixed h =
    scaled_costs a b n (weight effort fixed) h (weight_counts effort (open_bits fixed))

pub settled_cost : (a n effort : ℕ) (fixed : List Bits) → a + 1 ≤ n
    → a * weight effort fixed + 1 ≤ n * weight effort fixed
settled_cost a n effort fixed h = omega (arith, settled_costs a 0 n effort fixed (omega arith))

pub settled_end : (n effort : ℕ) (fixed : List Bits) → 1 ≤ n → 1 ≤ n * weight effort fixed
settled_end n effort fixed h = omega (arith, settled_cost 0 n effort fixed h)

-- what a step counts where more is fixed, by what one counts before
pub weighs_less : (effort size : ℕ) (more fewer : List Bits) → open_bits more ≤ open_bits fewer → 0 < size
    → weight effort more ≤ size * weight effort fewer
weighs_less effort size more fewer less counts =
    let within : weight effort more ≤ weight effort fewer = pow-le-pow_right (omega arith) less in
    let all : weight effort fewer * 1 ≤ weight effort fewer * size = mul-le-mul_left (weight effort fewer) counts in
    omega arith

-- a split of a node into two at the root, each with one bit more
pub record IsSplit {N : Type 0} (root : N) (fixed : List Bits) (word bit : ℕ) (answer : Bool) (half : SettlingNode N)
    : Type 0 where
  pub node : half.node ≡ root
  pub have : (words : List ℕ) → HaveBits fixed words → atom_answer (bit_is_set word bit) words ≡ answer
      → HaveBits half.fixed.words words
  pub fewer : open_bits half.fixed.words < open_bits fixed

pub splits_in_two : {K N : Type 0} (compared : Compared) (tree : K → Tree N) (start : K) (root : N)
    (given : List ℕ → Type 0) (before : K) (from : SettlingNode N) (fixed : List Bits) (word bit : ℕ)
    (set clear : SettlingNode N)
    → ((words : List ℕ) → given words → AreWordsIn compared words) → StartsAt (AreWordsIn compared) (tree start) root
    → ((words : List ℕ) → given words → HaveBits from.fixed.words words → HaveBits fixed words)
    → open_bits fixed ≤ open_bits from.fixed.words → 0 < (tree before).size from.node → word < 16
    → IsSplit root fixed word bit true set → IsSplit root fixed word bit false clear
    → IsStep (pair_leaves compared) given (settling_trees tree start root before) from
    (settling_trees tree start root start) (Branch (Some (bit_is_set word bit)) set clear)
splits_in_two compared tree start root given before from fixed word bit set clear within at_root have less counts word_is of_set of_clear =
    let effort = (tree start).size root in
    record {
      proper = (word_is, rw of_set.node at_root.node, rw of_clear.node at_root.node);
      leads = λ words allowed on.
          let reached = at_root.reached words (within words allowed) in
          let have_fixed = have words allowed on.1 in (
            λ yes. (rw of_set.node reached, of_set.have words have_fixed yes),
            λ no. (rw of_clear.node reached, of_clear.have words have_fixed no),
          );
      costs = rw (of_set.node, of_clear.node) (omega (
        arith,
        two_walks effort (open_bits fixed) (open_bits set.fixed.words) (open_bits clear.fixed.words) of_set.fewer
            of_clear.fewer,
        weighs_less effort ((tree before).size from.node) fixed from.fixed.words less counts,
      ));
      plain = λ masks plain. absurd plain;
    }
