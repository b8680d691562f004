-- Why filters in memory, which can be read, are refused.
use Rattle.std.proofs.Common.{◌≡◌, Ok, Err, Result, Some, arith}
use Rattle.std.specs.Prelude.{IfErr}
use Rattle.scf_insn.specs.declared.encoding.ReadFault.TheVariants as reads
use Rattle.scf_request.specs.Contents.{rest_of}
use Rattle.scf_request.specs.declared.contents.PartReader.{PartReader}
use Rattle.scf_tool.specs.Verifying.{IsNoFilter, LeavesFilterReader}
use Rattle.scf_tool.specs.declared.verify_fault.VerifyFault.{VerifyFault}
use Rattle.scf_tool.specs.declared.verify_fault.VerifyFault.TheVariants.{FilterRead, ProfileRead, TableRead}
use Rattle.scf_c.specs.Filters.{IsFilterRefused}

pub refused_well : {T : Type 0} (old new : PartReader) (result : Result T VerifyFault)
    → IfErr result (IsNoFilter (Some (rest_of old)))
    → LeavesFilterReader (λ reader. Some (rest_of reader)) (λ reader. 0) old result new
    → IfErr result (IsFilterRefused (rest_of old))
refused_well old new (Ok program) refused left = tt
refused_well old new (Err (FilterRead fault)) refused left =
    (refused, λ is. let failed : fault ≡ reads.Read = cc in absurd (omega (arith, left.0 failed)))
refused_well old new (Err (TableRead fault)) refused left = absurd refused
refused_well old new (Err (ProfileRead fault)) refused left = absurd refused
refused_well old new (Err fault) refused left = (refused, λ is. absurd (cc))
