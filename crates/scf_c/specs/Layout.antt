-- What crosses between C and scf.
use Rattle.std.specs.Prelude.{ℕ, List, [], ◌∷◌, Option, Some, map}
use Rattle.scf_insn.specs.declared.record.CallRecord.{CallRecord}
use Rattle.scf_c.specs.declared.layout.Bytes.{Bytes}
use Rattle.scf_c.specs.declared.layout.Call.{Call}

-- the record that a filter sees
abbrev pub record_of : Call → CallRecord
record_of call = record { nr = call.nr; arch = call.arch; ip = call.ip; args = call.args }

-- a record as C has it
abbrev pub call_of : CallRecord → Call
call_of call = record { nr = call.nr; arch = call.arch; ip = call.ip; args = call.args }

abbrev pub no_call : Call
no_call = record { nr = 0; arch = 0; ip = 0; args = 0 ∷ 0 ∷ 0 ∷ 0 ∷ 0 ∷ 0 ∷ [] }

-- the bytes of filters
abbrev pub bytes_of : List Bytes → List (List ℕ)
bytes_of filters = map (λ filter. filter.bytes.now) filters

-- which are known
abbrev pub known_bytes : List Bytes → List (Option (List ℕ))
known_bytes filters = map Some (bytes_of filters)
