use Rattle.std.proofs.lemmas.Option.{gets}
use Rattle.scf_compare.proofs.Common.{◌≡◌, Some, arith, common_steps, slice_get}
use Rattle.scf_compare.specs.internal.SeveralProfiles.{size_of_later}
use Rattle.scf_compare.proofs.profiles.ProfilesSideSideTree.pass.Goals as goal

pub returns-in-Some : goal.returns-in-Some
returns-in-Some g c =
    let profiles = c.args.self.now.profiles.now in
    let index = c.args.known.now.index in
    let stands : slice_get profiles index ≡ Some c.in-Some.profile.now = grind (arith, common_steps, gets) in
    let passed = rw c.with_numbers.ensures.profile at c.pass_from.ensures in
    let later = passed.later (size_of_later profiles index) in
    grind (arith, common_steps, later.reached)
