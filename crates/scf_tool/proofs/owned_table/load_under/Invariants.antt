use Rattle.scf_tool.proofs.Common.{◌≡◌, map, take}
use Rattle.scf_profile.specs.StatedProfile.{tables_of}
use Rattle.scf_tool.specs.Inputs.{named_of}
use Rattle.scf_tool.proofs.owned_table.load_under.Given as goal

abbrev pub invariant-loop-owned : goal.invariant-loop-owned
invariant-loop-owned l = tables_of l.under.items ≡ map named_of (take l.owned-index l.tables)
