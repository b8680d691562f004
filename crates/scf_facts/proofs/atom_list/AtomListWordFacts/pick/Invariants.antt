use Rattle.scf_facts.proofs.Common.{◌≡◌, ◌<◌, ◌^◌, length, All}
use Rattle.scf_facts.proofs.atom_list.AtomListWordFacts.pick.Given as goal

abbrev pub invariant-loop-known : goal.invariant-loop-known
invariant-loop-known l = record {
  count : length l.words ≡ 16;
  each : All (λ word. word < 2 ^ 32) l.words;
}
