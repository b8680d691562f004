use Rattle.std.proofs.lemmas.List.{drop_all}
use Rattle.std.proofs.lemmas.Option.{gets}
use Rattle.scf_compare.proofs.Common.{◌≡◌, ◌≤◌, None, arith, common_steps, length, refl, slice_get, call_of}
use Rattle.scf_compare.proofs.SeveralProfiles.{end_of_several, of_none, root_size}
use Rattle.scf_compare.proofs.profiles.ProfilesSide.start_at.Goals as goal

pub returns-in-Some-clause-size : goal.returns-in-Some-clause-size
returns-in-Some-clause-size c =
    grind (arith, common_steps, common_steps, gets, root_size)

pub returns-in-None : goal.returns-in-None
returns-in-None c =
    let profiles = c.args.self.now.profiles.now in
    let none : slice_get profiles c.args.index ≡ None = grind (arith, common_steps, gets) in
    let past : length profiles ≤ c.args.index = grind (arith, common_steps, gets) in
    rw none (record {
      node = tt;
      reached = λ words before. of_none profiles c.args.index (call_of words) past before;
      size = rw (drop_all c.args.index profiles past, end_of_several profiles c.args.index past c.requires.later) refl;
    })
