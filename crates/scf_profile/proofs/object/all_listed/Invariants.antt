use Rattle.scf_profile.proofs.Common.{◌≡◌, drop, all_listed, tables_of, texts_at, with_machine}
use Rattle.scf_profile.proofs.object.all_listed.Given as goal

-- what the tables from this one on come to is what all come to
abbrev pub invariant-loop-i : goal.invariant-loop-i
invariant-loop-i l =
    all_listed l.i (with_machine l.machine (texts_at l.names)) (tables_of (drop l.i l.tables))
    ≡ all_listed 0 (with_machine l.machine (texts_at l.names)) (tables_of l.tables)
