use Rattle.scf_insn.specs.Architectures.{architectures}
use Rattle.scf_insn.specs.declared.architecture.Architecture.{Architecture}
use Rattle.scf_profile.proofs.Common.{All, X8664}
use Rattle.scf_request.specs.Contents.{rest_of_table}
use Rattle.scf_tool.proofs.Common.{◌≤◌, ◌∙◌, List, length, map, subst, take_all}
use Rattle.std.proofs.Common.{arith, rules, ◌<◌}
use Rattle.std.proofs.lemmas.Bool.{false≢true}
use Rattle.std.proofs.lemmas.List.Elements.{All-more}
use Rattle.scf_tool.specs.Commands.{ArePartsOfOne}
use Rattle.scf_tool.proofs.inputs.are_distinct.Goals.{then-tables_of_this-gt1-via-then-tables_of_this-gt1, then-tables_of_this-gt1-via-else-tables_of_this-gt1+then-count_of-tables_of_this}
use Rattle.scf_tool.proofs.inputs.are_distinct.Goals as goal

pub loop-architecture-preserved : goal.loop-architecture-preserved
loop-architecture-preserved c =
    let once : Architecture → Type 0 =
    ArePartsOfOne (map rest_of_table c.args.tables.now) (map rest_of_table c.args.stubs.now) in
    let within : c.loop-architecture.architecture-index < length c.all-all.result =
    rw c.all-all.ensures c.loop-architecture-test.true in
    let tables = c.count_of-tables_of_this.ensures in
    All-more once c.all-all.result c.loop-architecture.architecture-index X8664 within c.loop-architecture.invariant (
      omega (arith, tables, c.if-tables_of_this-gt1.false),
      omega (arith, tables, c.count_of.ensures, c.if-count_of-tables_of_this.false),
    )

pub returns-then-tables_of_this-gt1 : goal.returns-then-tables_of_this-gt1
returns-then-tables_of_this-gt1 c = (
  λ is. absurd (false≢true is),
  λ given.
      let once = given c.loop-architecture.architecture-index X8664 c.loop-architecture-test.true in
      let tables = rw c.all-all.ensures at c.count_of-tables_of_this.ensures in
      elim c.then-tables_of_this-gt1.branch [
        | then-tables_of_this-gt1-via-then-tables_of_this-gt1 w ↦
            absurd (omega (arith, once.0, tables, w.if-tables_of_this-gt1.true))
        | then-tables_of_this-gt1-via-else-tables_of_this-gt1+then-count_of-tables_of_this w ↦
            let stubs = rw c.all-all.ensures at w.count_of.ensures in
            absurd (omega (arith, once.1, tables, stubs, w.if-count_of-tables_of_this.true))
      ],
)

pub returns : goal.returns
returns c =
    let once : Architecture → Type 0 =
    ArePartsOfOne (map rest_of_table c.args.tables.now) (map rest_of_table c.args.stubs.now) in
    let long : length c.all-all.result ≤ c.loop-architecture.architecture-index =
    rw c.all-all.ensures c.loop-architecture-test.false in
    let all : All once architectures =
    subst (λ (xs : List Architecture). All once xs)
    (take_all c.loop-architecture.architecture-index c.all-all.result long ∙ c.all-all.ensures)
    c.loop-architecture.invariant in
    (λ is. all, λ given. search rules)
