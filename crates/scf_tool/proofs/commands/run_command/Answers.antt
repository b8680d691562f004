use Rattle.scf_tool.proofs.Common.{Err, inl, refl}
use Rattle.scf_tool.specs.declared.fault.Fault.TheVariants as faults
use Rattle.scf_tool.proofs.commands.run_command.Goals as goal

pub returns-in_default : goal.returns-in_default
returns-in_default g c = record {
  ending = Err faults.CommandLine;
  ends = inl (tt, refl);
  prints = inl c.report_out_of_memory.ensures;
}
