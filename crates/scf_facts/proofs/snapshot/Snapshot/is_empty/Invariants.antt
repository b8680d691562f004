use Rattle.scf_facts.proofs.Common.{◌≡◌, ◌<◌, ◌^◌, ℕ, length, get_or, IsTrue, NumberFacts, AllowsNumber, is_exact_set}
use Rattle.scf_facts.specs.Masks.{AreFew, RefutesAmong}
use Rattle.scf_facts.proofs.snapshot.Snapshot.is_empty.Given as goal

-- each word so far may be some number
abbrev pub invariant-loop-index : goal.invariant-loop-index
invariant-loop-index l = record {
  sixteen : 0 < l.index → length l.self ≡ 16;
  seen : (k : ℕ) (default : NumberFacts) → k < l.index → IsTrue (is_exact_set (get_or l.self k default))
      → (x : ℕ) × (x < 2 ^ 32) × AllowsNumber (get_or l.self k default) x;
  seen_among : (masks : ℕ) → AreFew masks → (k : ℕ) (default : NumberFacts) → k < l.index
      → RefutesAmong masks (get_or l.self k default)
      → (x : ℕ) × (x < 2 ^ 32) × AllowsNumber (get_or l.self k default) x;
}
