use Rattle.scf_compare.proofs.SplitLaws.{splits_end}
use Rattle.scf_compare.proofs.laws.splits_end.Goals as goal

pub returns : goal.returns
returns c = splits_end
