-- What the parts of a bundle hold, by their kinds.
use Rattle.std.specs.Prelude.{ℕ, List, map, Some, None, if◌then◌else◌}
use Rattle.std.specs.List.{filter_map}
use Rattle.scf_insn.specs.Architectures.{row_of}
use Rattle.scf_insn.specs.declared.architecture.Architecture.{Architecture}
use Rattle.scf_profile.specs.StatedProfile.{is_named}
use Rattle.scf_request.specs.declared.bundle.BundleForm.{BundleForm}
use Rattle.scf_request.specs.declared.contents.Contents.{Contents}
use Rattle.scf_request.specs.declared.contents.PartReader.{PartReader}
use Rattle.scf_request.specs.declared.contents.TableReader.{TableReader}
use Rattle.scf_request.specs.Bundle.{Held, IsBundle}

-- what a reader of a part has still to give
abbrev pub rest_of : PartReader → List ℕ
rest_of reader = reader.rest.now

-- what a reader of a table has still to give, with its architecture
abbrev pub rest_of_table : TableReader PartReader → Architecture × List ℕ
rest_of_table table = (table.architecture, rest_of table.reader)

-- what those of an architecture hold
abbrev pub texts_for : Architecture → List (Architecture × List ℕ) → List (List ℕ)
texts_for architecture tables =
    filter_map (λ table. if is_named (row_of architecture).name table.0 then Some table.1 else None) tables

-- what the readers of the contents have still to give
abbrev pub held_by : Contents → Held
held_by contents = record {
  filters = map rest_of contents.filters.items;
  profiles = map rest_of contents.profiles.items;
  beside = map rest_of contents.beside.items;
  beside_profiles = map rest_of contents.beside_profiles.items;
  tables = map rest_of_table contents.tables.items;
  stubs = map rest_of_table contents.stubs.items;
  counts = map rest_of_table contents.counts.items;
}

-- the parts of the bundle that bytes spell hold this
abbrev pub IsHeldBy : BundleForm → List ℕ → Contents → Type 0
IsHeldBy form bytes contents = IsBundle form bytes (held_by contents)
