-- What a counted reader or writer shows.
use Rattle.std.specs.Prelude.{ℕ}
use Rattle.scf_insn.specs.declared.stream.Counted.{Counted}

-- the reader or writer of std
abbrev pub inner_of : {T : Type 0} → Counted T → T
inner_of counted = counted.inner

-- how many of its reads or writes have failed
abbrev pub failures_of : {T : Type 0} → Counted T → ℕ
failures_of counted = counted.failures
