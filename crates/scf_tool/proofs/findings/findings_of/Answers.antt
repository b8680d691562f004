use Rattle.scf_tool.proofs.Common.{arith, length, ◌≡◌}
use Rattle.scf_tool.proofs.TableLemmas.{of_only, of_others}
use Rattle.std.specs.Prelude.{IfOk}
use Rattle.scf_profile.specs.StatedProfile.{Tables}
use Rattle.scf_request.specs.declared.request.Scopes.TheVariants.{EachCall}
use Rattle.scf_tool.specs.Inputs.{behavior_of_input}
use Rattle.scf_tool.specs.JointFindings.{AreFindings}
use Rattle.scf_tool.proofs.findings.findings_of.Goals as goal

pub returns-in-AtOnce : goal.returns-in-AtOnce
returns-in-AtOnce c = rw c.in-AtOnce.is c.compare_at_once.ensures

pub returns-else-len-ne1 : goal.returns-else-len-ne1
returns-else-len-ne1 c =
    let sides = c.args.sides.now in
    let counted = sides.tables.ok.0 in
    let is_one = rw c.len.ensures at c.if-len-ne1.false in
    let one : length sides.tables.items ≡ 1 = omega (arith, counted, is_one) in
    rw c.in-EachCall.is (of_only (λ (tables : Tables). IfOk c.compare_calls.result
    (AreFindings c.args.comparison EachCall sides.of_each (behavior_of_input sides.left) sides.right tables))
    sides.tables.items c.index.result.now one c.index.ensures c.compare_calls.ensures)

pub returns-then-len-ne1 : goal.returns-then-len-ne1
returns-then-len-ne1 c =
    let sides = c.args.sides.now in
    let counted = sides.tables.ok.0 in
    let other = rw c.len.ensures at c.if-len-ne1.true in
    rw c.in-EachCall.is (of_others c.args.comparison sides.of_each (behavior_of_input sides.left) sides.right
    sides.tables.items c.new.result (λ one. omega (arith, counted, other, one)) c.new.ensures.items)
