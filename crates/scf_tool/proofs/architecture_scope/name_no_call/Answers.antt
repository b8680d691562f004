use Rattle.std.proofs.Common.{arith}
use Rattle.std.proofs.lemmas.Bool.{eq-eqb, eqb-true}
use Rattle.scf_tool.proofs.ScopeLemmas.{no_calls, some_calls}
use Rattle.scf_tool.proofs.TableLemmas.{only_named}
use Rattle.scf_tool.proofs.Common.{AllZip, [], get_or, ◌∷◌}
use Rattle.scf_tool.specs.Inputs.{SpellsTable, named_of}
use Rattle.scf_tool.proofs.architecture_scope.name_no_call.Goals as goal

pub returns-in-Ok-clause-none : goal.returns-in-Ok-clause-none
returns-in-Ok-clause-none c = λ texts spelled.
    let only = get_or c.args.tables.now 0 c.index-tables-0.result in
    let single : AllZip SpellsTable texts (named_of only ∷ []) =
    rw (only_named c.args.tables.now c.index-tables-0.result c.if-tables-ne1.false) at spelled in
    let calls = c.in-Ok.calls in
    let counted = calls.ok.0 in (
      λ is.
          let empty = eqb-true calls.len 0 (rw c.is_empty.ensures at is) in
          no_calls texts (named_of only) calls.items single c.in-Ok.ensures (omega (arith, counted, empty)),
      λ none.
          let empty = some_calls texts (named_of only) calls.items single c.in-Ok.ensures none in
          rw c.is_empty.ensures (eq-eqb calls.len 0 (omega (arith, counted, empty))),
    )
