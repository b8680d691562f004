use Rattle.scf_facts.proofs.Common.{◌≡◌, ◌<◌, ◌^◌, ℕ, length, get_or, slice_index, All, NumberFacts, AllowsNumber}
use Rattle.scf_facts.proofs.snapshot.Snapshot.pick.Given as goal

-- each word so far is one of its numbers
abbrev pub invariant-loop-index : goal.invariant-loop-index
invariant-loop-index l = record {
  sixteen : 0 < l.index → length l.self ≡ 16;
  count : length l.words ≡ 16;
  fits : All (λ word. word < 2 ^ 32) l.words;
  each : (k : ℕ) (default : NumberFacts)
      → k < l.index → AllowsNumber (get_or l.self k default) (slice_index l.words k);
}
