use Rattle.scf_profile.proofs.Common.{Ok, RefusesEachAs, view, TestsGive, loaded_profiles_of, tables_of, arith, nat_tests, common_steps}
use Rattle.scf_profile.proofs.Handed.{handed_fault}
use Rattle.scf_profile.proofs.TestFaults.{refuses_each_of_conflict, refuses_each_of_fault}
use Rattle.scf_profile.proofs.profile_text.load_profiles_as.Goals as goal

pub returns-in_err-stated-clause-err : goal.returns-in_err-stated-clause-err
returns-in_err-stated-clause-err c = grind (arith, common_steps, nat_tests, handed_fault, refuses_each_of_fault, c.from_residual-in_err-stated.ensures.1, c.in_ok-value.ensures.ok, c.in_err-stated.ensures.value)

pub returns-in_err-all_without_conflict-clause-err : goal.returns-in_err-all_without_conflict-clause-err
returns-in_err-all_without_conflict-clause-err c =
    let reading = c.args.reading in
    let tables = tables_of c.args.tables.now in
    let loaded = loaded_profiles_of reading c.in_ok-stated.stated in
    let gives : TestsGive reading c.args.text.now tables (Ok loaded) =
    (view c.in_ok-value.value, c.in_ok-value.ensures.ok, c.in_ok-stated.ensures.value) in
    handed_fault (RefusesEachAs reading c.args.text.now tables) _ _
    c.from_residual-in_err-all_without_conflict.ensures.1
    (refuses_each_of_conflict _ _ _ loaded gives _ c.in_err-all_without_conflict.ensures.err)
