use Rattle.scf_profile.proofs.Common.{◌≡◌, ◌≤◌, length, fields}
use Rattle.scf_profile.proofs.table_line.trimmed.Given as goal

abbrev pub invariant-loop-remaining : goal.invariant-loop-remaining
invariant-loop-remaining l = record { same : fields l.remaining ≡ fields l.text; shorter : length l.remaining ≤ length l.text }

abbrev pub decreases-loop-remaining : goal.decreases-loop-remaining
decreases-loop-remaining l = length l.remaining
