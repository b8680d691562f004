use Rattle.scf_facts.proofs.Common.{◌≡◌, arith, slice_get, common_steps, gets}
use Rattle.scf_facts.proofs.IntervalLaws.{reached}
use Rattle.scf_facts.proofs.intervals.first_reaching.Goals as goal

pub returns : goal.returns
returns c =
    let index = c.count_ending_below.result in
    let found : c.copied.result ≡ slice_get c.args.intervals.now index = grind (arith, common_steps, gets) in
    let r = reached 0 c.args.intervals.now index c.args.x c.copied.result c.requires
    (rw c.from.ensures at c.count_ending_below.ensures.below) found in
    record { reaches = grind (arith, common_steps, gets); one = r.0; first = r.1; none = r.2 }
