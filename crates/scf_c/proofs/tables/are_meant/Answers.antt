use Rattle.std.proofs.Common.{rules, ◌≤◌, List, All, subst}
use Rattle.std.proofs.lemmas.List.{take_all}
use Rattle.std.proofs.lemmas.List.Elements.{All-more}
use Rattle.scf_c.specs.Architectures.{IsMeant, count_for}
use Rattle.scf_c.specs.declared.layout.Table.{Table}
use Rattle.scf_c.proofs.tables.are_meant.Goals as goal

pub loop-table-preserved : goal.loop-table-preserved
loop-table-preserved c =
    All-more (λ (table : Table). IsMeant table × (count_for table.architecture c.args.tables.now ≤ 1))
    c.args.tables.now c.loop-table.table-index _ c.loop-table-test.true c.loop-table.invariant
    (c.is_meant.ensures.0 (search rules), rw c.count_for.ensures at c.if-count_for-gt1.false)

pub returns : goal.returns
returns c = (
  λ is. record {
    each = subst
        (λ (tables : List Table).
        All (λ table. IsMeant table × (count_for table.architecture c.args.tables.now ≤ 1)) tables)
        (take_all c.loop-table.table-index c.args.tables.now c.loop-table-test.false) c.loop-table.invariant;
  },
  λ all. search rules,
)
