use Rattle.std.proofs.Common.{◌≡◌, ◌++◌, flat_map, map, take}
use Rattle.scf_c.specs.Answers.{all_regions, facts_of, numbers_of_region}
use Rattle.scf_c.proofs.answers.listed_of.Given as goal

abbrev pub invariant-loop-walk : goal.invariant-loop-walk
invariant-loop-walk l = record {
  regions : l.regions.items ≡ map numbers_of_region (all_regions (take l.walk-index l.walks));
  facts : l.facts.items ≡ flat_map facts_of (all_regions (take l.walk-index l.walks));
}

abbrev pub invariant-loop-region : goal.invariant-loop-region
invariant-loop-region l = record {
  regions : l.regions.items ≡ l.initial.regions.items ++ map numbers_of_region (take l.region-index l.region-items);
  facts : l.facts.items ≡ l.initial.facts.items ++ flat_map facts_of (take l.region-index l.region-items);
}
