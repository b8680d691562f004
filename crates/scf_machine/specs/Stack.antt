-- Stacks of filters.
use Rattle.std.specs.Prelude.{◌≡◌, ℕ, ◌+◌, ◌<◌, ◌≤◌, List, [], ◌∷◌, ◌++◌, length, Result, Ok, Err, sum_by}
use Rattle.scf_insn.specs.declared.insn.Insn.{Insn}
use Rattle.scf_insn.specs.Kernel.{max_insns_per_path}
use Rattle.scf_machine.specs.declared.stack.PushFault.{PushFault}
use Rattle.scf_machine.specs.declared.stack.PushFault.TheVariants.{TooMany, Memory}

-- what filters count before a newer one: their instructions, and 4 for each
abbrev pub cost_of : List (List Insn) → ℕ
cost_of filters = sum_by (λ filter. length filter + 4) filters

-- what a stack is once a filter was pushed, and what the push answers: a refusal hands the filter back
abbrev pub IsPush : List (List Insn) → List Insn → Result (Unit {0}) (PushFault × List Insn) → List (List Insn) → Type 0
IsPush old filter (Ok done) new = (length filter + cost_of old ≤ max_insns_per_path) × (new ≡ old ++ filter ∷ [])
IsPush old filter (Err (TooMany total, back)) new =
    (total ≡ length filter + cost_of old) × (max_insns_per_path < total) × (back ≡ filter) × (new ≡ old)
IsPush old filter (Err (Memory, back)) new =
    (length filter + cost_of old ≤ max_insns_per_path) × (back ≡ filter) × (new ≡ old)
