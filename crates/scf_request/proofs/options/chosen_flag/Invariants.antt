use Rattle.scf_request.proofs.Common.{◌≡◌, take, option_to_list, found_of, rows_of, chosen_of, flags_in}
use Rattle.scf_request.proofs.options.chosen_flag.Given as goal

abbrev pub invariant-loop-flag : goal.invariant-loop-flag
invariant-loop-flag g l =
    chosen_of (rows_of (found_of l.matches)) (flags_in (take l.flag-index l.group)) ≡ option_to_list l.chosen
