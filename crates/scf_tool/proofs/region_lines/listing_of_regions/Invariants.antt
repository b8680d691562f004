use Rattle.std.specs.Prelude.{◌&&◌, filter, sum_by}
use Rattle.scf_tool.proofs.Common.{◌≡◌, ◌++◌, flat_map, length, not, string_bytes, take}
use Rattle.scf_tool.specs.RegionLines.{is_alike, listed_regions, region_text, saturated}
use Rattle.scf_tool.proofs.region_lines.listing_of_regions.Given as goal

abbrev pub invariant-loop-walk : goal.invariant-loop-walk
invariant-loop-walk l = record {
  text : string_bytes l.text ≡ flat_map (region_text l.format)
      (flat_map (listed_regions l.format.has_differences) (take l.walk-index l.walks));
  count : l.count
      ≡ saturated (length (flat_map (listed_regions l.format.has_differences) (take l.walk-index l.walks)));
  steps : l.steps ≡ saturated (sum_by (λ regions. regions.steps) (take l.walk-index l.walks));
}

abbrev pub invariant-loop-region : goal.invariant-loop-region
invariant-loop-region l = record {
  text : string_bytes l.text ≡ flat_map (region_text l.format)
      (flat_map (listed_regions l.format.has_differences) (take l.walk-index l.walks)
      ++ filter (λ region. not (l.format.has_differences && is_alike region.leaf))
      (take l.region-index l.region-items));
  count : l.count ≡ saturated (length (flat_map (listed_regions l.format.has_differences) (take l.walk-index l.walks)
      ++ filter (λ region. not (l.format.has_differences && is_alike region.leaf))
      (take l.region-index l.region-items)));
  steps : l.steps ≡ saturated (sum_by (λ regions. regions.steps) (take l.walk-index l.walks));
}
