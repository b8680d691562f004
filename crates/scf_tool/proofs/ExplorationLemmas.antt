-- Regions within a limit are regions within a greater one.
use Rattle.scf_compare.specs.Sides.{Behavior}
use Rattle.scf_compare.specs.declared.regions.Regions.{Regions}
use Rattle.scf_profile.specs.declared.scope.Scope.{Scope}
use Rattle.scf_tool.proofs.Common.{◌≤◌, ℕ, arith}
use Rattle.scf_tool.specs.Explorations.{AreListed}

pub widened : (left right : Behavior) (scope : Scope) (limit most : ℕ) (regions : Regions)
    → AreListed left right scope limit regions → limit ≤ most → AreListed left right scope most regions
widened left right scope limit most regions listed below =
    let are = listed.are_regions in
    let within = are.within_limit in
    record {
      are_regions = record {
        covered = are.covered;
        each = are.each;
        disjoint = are.disjoint;
        counted = are.counted;
        within_limit = omega arith;
        within_size = are.within_size;
      };
      decided = listed.decided;
    }
