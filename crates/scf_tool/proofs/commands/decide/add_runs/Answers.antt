use Rattle.std.proofs.Common.{append_assoc}
use Rattle.scf_tool.proofs.Common.{List, ap, string_bytes, ◌++◌, ◌∙◌, ℕ}
use Rattle.scf_tool.proofs.RunLemmas.{one_more_run}
use Rattle.scf_tool.specs.Lines.{traced_text}
use Rattle.scf_tool.proofs.commands.decide.add_runs.Goals as goal

pub loop-filter-preserved : goal.loop-filter-preserved
loop-filter-preserved c =
    let so_far = c.loop-filter.invariant in
    let ran = c.in_ok-add_run.ensures in (
      so_far.0 ++ traced_text ran.0 ran.1,
      one_more_run _ c.loop-filter.filter-index c.filter-item.result _ so_far.0 ran.0 ran.1 c.loop-filter-test.true
          so_far.1 (rw c.filter-item.is at ran.2),
      ran.3 ∙ ap (λ (t : List ℕ). t ++ traced_text ran.0 ran.1) so_far.2
          ∙ append_assoc (string_bytes c.args.text.now) so_far.0 (traced_text ran.0 ran.1),
    )
