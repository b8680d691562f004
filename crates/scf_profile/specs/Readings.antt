-- In which points a container runtime reads a profile otherwise than its words say. runc (getAction and matchCall of
-- libcontainer/seccomp) and crun (libcrun_generate_seccomp of src/libcrun/seccomp.c) hand the entries, one after
-- another, to libseccomp (src/db.c). Neither knows an errno by name: podman writes its number before. The reading of a
-- sandbox differs in TRAP's data alone (`takes_data` of StatedProfile.antt).
use Rattle.std.specs.Prelude.{ℕ, Bool, true, false, ◌&&◌, ◌||◌, ◌==◌, List, [], ◌∷◌, map, take, if◌then◌else◌}
use Rattle.std.specs.Prelude.{Option, Some, None}
use Rattle.std.specs.List.{filter, find, list_all, list_any}
use Rattle.std.specs.Option.{option_map_or}
use Rattle.scf_insn.specs.Architectures.{row_of, taken_of}
use Rattle.scf_insn.specs.Kernel.{seccomp_data_args}
use Rattle.scf_insn.specs.declared.answer.Answer.{Answer}
use Rattle.scf_insn.specs.declared.architecture.Architecture.{Architecture}
use Rattle.scf_insn.specs.declared.architecture.ArgumentBits.{ArgumentBits}
use Rattle.scf_profile.specs.declared.condition.Operator.{Operator}
use Rattle.scf_profile.specs.declared.condition.Operator.TheVariants.{MaskedEqual}
use Rattle.scf_profile.specs.declared.condition.Condition.{Condition}
use Rattle.scf_profile.specs.declared.reading.Reading.{Reading}
use Rattle.scf_profile.specs.declared.reading.Reading.TheVariants.{Runc, Crun}
use Rattle.scf_profile.specs.declared.rule.Rule.{Rule}
use Rattle.scf_profile.specs.Profile.{Profile}

-- A runtime's reading. Its filter has the machine's own architecture, whether or not that is listed (seccomp_init).
abbrev pub is_runtime : Reading → Bool
is_runtime Runc = true
is_runtime Crun = true
is_runtime reading = false

-- ---- entries

-- runc ignores an errno beside an action that takes none (getAction); crun refuses it
abbrev pub ignores_errno : Reading → Bool
ignores_errno Runc = true
ignores_errno reading = false

-- A runtime leaves out the entries whose answer is the default's: libseccomp takes none of them.
abbrev pub left_out : Reading → Answer → Option Answer
left_out reading default_answer = if is_runtime reading then Some default_answer else None

-- the conditions of an entry that are read: crun reads the first six
abbrev pub conditions_read : Reading → List Condition → List Condition
conditions_read Crun conditions = take seccomp_data_args conditions
conditions_read reading conditions = conditions

-- two conditions on one argument
abbrev pub has_repeated_index : List Condition → Bool
has_repeated_index [] = false
has_repeated_index (c ∷ cs) = list_any (λ d. d.index == c.index) cs || has_repeated_index cs

-- An entry is a rule by all its conditions. Where two are on one argument, which libseccomp takes in no rule, it is a
-- rule by each condition alone.
abbrev pub alternatives : List Condition → List (List Condition)
alternatives conditions =
    if has_repeated_index conditions then map (λ c. c ∷ []) conditions else conditions ∷ []

-- ---- rules of one syscall

-- a condition whose mask has no bit of an argument, which libseccomp skips (_db_arg_cmp_need_hi, _db_arg_cmp_need_lo)
abbrev pub compares_nothing : ArgumentBits → Operator → ℕ → Bool
compares_nothing bits MaskedEqual value = taken_of bits value == 0
compares_nothing bits op value = false

abbrev pub is_unconditional : Architecture → Rule → Bool
is_unconditional architecture r = list_all (λ c. compares_nothing (row_of architecture).bits c.op c.value) r.conditions

-- The rule answers as the first one of its number without conditions, if there is one: wherever that stands, it alone
-- has all calls of the number (db_rule_add).
abbrev pub is_effective : Architecture → List Rule → Rule → Bool
is_effective architecture rules r =
    option_map_or (λ first. first.answer.0 == r.answer.0)
    (find (λ s. (s.number == r.number) && is_unconditional architecture s) rules) true

-- The rules by which a runtime's filter answers. Where one call meets two rules with conditions and different answers,
-- libseccomp may refuse the second (EEXIST of _db_tree_add): they stay a conflict, but where a rule without conditions
-- has their calls. A runtime may refuse these, too.
abbrev pub effective_rules : Reading → Architecture → List Rule → List Rule
effective_rules reading architecture rules =
    if is_runtime reading then filter (is_effective architecture rules) rules else rules

abbrev pub effective_profile : Reading → Profile → Profile
effective_profile reading p = record p { rules = effective_rules reading p.architecture p.rules }
