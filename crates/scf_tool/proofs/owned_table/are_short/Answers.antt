use Rattle.std.proofs.lemmas.List.Elements.{All-map}
use Rattle.scf_request.specs.Contents.{rest_of_table}
use Rattle.scf_insn.specs.declared.architecture.Architecture.{Architecture}
use Rattle.scf_tool.proofs.Common.{List, take_all, ℕ}
use Rattle.scf_tool.specs.Inputs.{IsShort}
use Rattle.scf_tool.proofs.owned_table.are_short.Goals as goal

pub returns : goal.returns
returns c = λ is. All-map (λ (text : Architecture × List ℕ). IsShort c.args.is_limited text.1) rest_of_table
    c.args.parts.now (rw (take_all c.loop-part.part-index _ c.loop-part-test.false) at c.loop-part.invariant)
