use Rattle.std.proofs.Common.{List, false, map, subst}
use Rattle.scf_tool.proofs.TableLemmas.{spelled}
use Rattle.scf_tool.specs.Inputs.{named_of}
use Rattle.scf_c.specs.Architectures.{texts_of}
use Rattle.scf_c.specs.Records.{AreOver}
use Rattle.scf_c.specs.declared.layout.Table.{Table}
use Rattle.scf_c.proofs.records.pairings_of.Goals as goal

pub returns-clause-paired : goal.returns-clause-paired
returns-clause-paired c = record {
  on_left = c.side-left.result;
  on_right = c.side-right.result;
  is_left = c.side-left.ensures;
  is_right = c.side-right.ensures;
  are_over = subst
      (λ (used : List Table). AreOver c.args.over c.side-left.result c.side-right.result used
      c.in_ok-of_calls-in-EachCall.field-0.items)
      c.in_ok-used.ensures (rw c.in-EachCall.is (
        map named_of c.in_ok-owned-in-EachCall.owned.items,
        spelled false (texts_of c.in_ok-used.used.items) (map named_of c.in_ok-owned-in-EachCall.owned.items)
            (rw (
              c.deref-in-EachCall-2.ensures.value,
              c.in_ok-readers-in-EachCall.ensures,
              c.deref-in-EachCall.ensures.value,
            ) at c.in_ok-owned-in-EachCall.ensures.tables),
        rw c.deref-in-EachCall-3.ensures.value at c.in_ok-of_calls-in-EachCall.ensures,
      ));
}
