use Rattle.scf_profile.specs.declared.reading.Reading.TheVariants.{Strict}
use Rattle.scf_profile.proofs.Stated.{one_profile}
use Rattle.scf_profile.proofs.profile_text.load.Goals as goal

pub into_only-requires : goal.into_only-requires
into_only-requires c =
    let gives = c.in-Ok.ensures.ok.0 in rw gives.2 at (one_profile Strict c.args.table.now gives.0)

pub returns-in-Ok-clause-ok : goal.returns-in-Ok-clause-ok
returns-in-Ok-clause-ok c = rw c.into_only.ensures at c.in-Ok.ensures.ok
