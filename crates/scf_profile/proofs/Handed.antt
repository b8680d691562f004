-- Faults that a function hands on.
use Rattle.scf_profile.proofs.Common.{◌≡◌, ◌≢◌, IfErr, Result, Err, LoadFault, err_from_is_err_and}
use Rattle.std.specs.Result.{IsErrAnd}
use Rattle.scf_profile.specs.declared.load_fault.LoadFault.TheVariants.{Memory}
use Rattle.scf_profile.specs.Steps.{Gives}
use Rattle.scf_profile.specs.internal.Results.{result_map}

-- a fault that is handed on is what is stated, but when memory runs out
pub handed_on : {A B : Type 0} (view : A → B) (result : Result A LoadFault) (fault : LoadFault)
    (stated : Result B LoadFault) → IsErrAnd result (λ e. e ≡ fault) → (fault ≢ Memory → stated ≡ Err fault)
    → Gives Memory (result_map view result) stated
handed_on view result fault stated is fails = let p = err_from_is_err_and result is in rw (p.1, p.2) fails

-- and what holds of it holds of what is returned
pub handed_fault : {A : Type 0} (P : LoadFault → Type 0) (result : Result A LoadFault) (fault : LoadFault)
    → IsErrAnd result (λ e. e ≡ fault) → P fault → IfErr result P
handed_fault P result fault is holds = let p = err_from_is_err_and result is in rw (p.1, p.2) holds
