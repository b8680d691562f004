-- What a JSON value and call tables state as a profile (OCI runtime specification, config-linux.md, seccomp): the
-- tests in their order, each a function to what is stated or to its fault. A fault carries the index of the entry of
-- `syscalls` in which it stands, and none where it stands outside of them.
use Rattle.std.specs.Prelude.{ℕ, ◌+◌, ◌^◌, Bool, true, false, not, ◌&&◌, ◌==◌, List, [], ◌∷◌, ◌++◌, codes, length, map}
use Rattle.std.specs.Prelude.{◌||◌, Option, Some, None, ok_or, Result, Ok, nat_lt, if◌then◌else◌, is_none, is_some, option_map, ⊤}
use Rattle.std.specs.List.{list_all, list_any, filter, find, flat_map, filter_map}
use Rattle.std.specs.Map.{lookup}
use Rattle.std.specs.Str.{bytes_eq}
use Rattle.std.specs.FinMap.{get}
use Rattle.std.specs.Option.{option_map_or}
use Rattle.scf_insn.specs.Architectures.{architectures, row_of}
use Rattle.scf_insn.specs.declared.architecture.Architecture.{Architecture}
use Rattle.scf_insn.specs.declared.architecture.Architecture.TheVariants.{X8664, Aarch64}
use Rattle.scf_insn.specs.Kernel.{seccomp_data_args}
use Rattle.scf_insn.specs.declared.answer.Answer.{Answer}
use Rattle.scf_insn.specs.declared.answer.Action.{Action}
use Rattle.scf_insn.specs.declared.answer.Action.TheVariants as actions
use Rattle.scf_insn.specs.Answers.{answer_of}
use Rattle.serde_json.specs.Data.{Data, Items, no_items}
use Rattle.serde_json.specs.Events.{items_len, members_len}
use Rattle.serde_json.specs.Find.{as_array, as_object, as_str}
use Rattle.scf_profile.specs.declared.architecture_table.ArchitectureTable.{ArchitectureTable}
use Rattle.scf_profile.specs.declared.condition.Operator.{Operator}
use Rattle.scf_profile.specs.declared.condition.Operator.TheVariants as operators
use Rattle.scf_profile.specs.declared.condition.Condition.{Condition}
use Rattle.scf_profile.specs.declared.rule.Rule.{Rule}
use Rattle.scf_profile.specs.declared.entry.Entry.{Entry}
use Rattle.scf_profile.specs.declared.load_fault.LoadFault.{LoadFault}
use Rattle.scf_profile.specs.declared.load_fault.LoadFault.TheVariants as faults
use Rattle.scf_profile.specs.declared.loaded.LoadedProfiles.{LoadedProfiles}
use Rattle.scf_profile.specs.declared.reading.Reading.{Reading}
use Rattle.scf_profile.specs.declared.reading.Reading.TheVariants.{Sandbox}
use Rattle.scf_profile.specs.Profile.{Profile}
use Rattle.scf_profile.specs.Steps.{◌>>=◌, refused_if}
use Rattle.scf_profile.specs.JsonMembers.{member, whole_number, unsigned_number, each}
use Rattle.scf_profile.specs.Limits.{max_errno, max_rules, number_below}
use Rattle.scf_profile.specs.Readings.{alternatives, conditions_read, effective_profile, ignores_errno, is_runtime, left_out}
use Rattle.scf_profile.specs.Table.{Names}

-- ---- members

-- a member that has to be there, of a kind
abbrev pub required : {T : Type 0} → Option ℕ → List ℕ → (Data → Option T) → Data → Result T LoadFault
required entry name kind d =
    ok_or (member name d) (faults.Missing entry) >>= λ value. ok_or (kind value) (faults.Kind entry)

-- one that may be absent, of a kind
abbrev pub optional : {T : Type 0} → T → Option ℕ → List ℕ → (Data → Option T) → Data → Result T LoadFault
optional absent entry name kind d = if is_none (member name d) then Ok absent else required entry name kind d

-- ---- an action and its answer

-- the nine names of the eight actions
abbrev pub action_named : List ℕ → Option Action
action_named name = lookup (bytes_eq name) (
    (codes "SCMP_ACT_KILL", actions.KillThread) ∷ (codes "SCMP_ACT_KILL_THREAD", actions.KillThread)
    ∷ (codes "SCMP_ACT_KILL_PROCESS", actions.KillProcess) ∷ (codes "SCMP_ACT_TRAP", actions.Trap)
    ∷ (codes "SCMP_ACT_ERRNO", actions.Errno) ∷ (codes "SCMP_ACT_NOTIFY", actions.UserNotif)
    ∷ (codes "SCMP_ACT_TRACE", actions.Trace) ∷ (codes "SCMP_ACT_LOG", actions.Log)
    ∷ (codes "SCMP_ACT_ALLOW", actions.Allow) ∷ [])

-- the actions that have an errno as their data
abbrev pub takes_errno : Action → Bool
takes_errno actions.Errno = true
takes_errno actions.Trace = true
takes_errno action = false

-- In a sandbox's reading an errno is TRAP's data, too: the kernel hands them to the handler of SIGSYS as si_errno
-- (seccomp(2)).
abbrev pub takes_data : Reading → Action → Bool
takes_data Sandbox actions.Trap = true
takes_data reading action = takes_errno action

-- an errno that is there; one that is ignored is a number from 0 on all the same
unfoldable pub errno_of : Reading → Option ℕ → Action → Data → Result ℕ LoadFault
errno_of reading entry action d = do
  number ← ok_or (whole_number d) (faults.Kind entry)
  _ ← refused_if (not (takes_data reading action || ignores_errno reading)) (faults.Errno entry)
  errno ← ok_or
      (number_below (if takes_data reading action then max_errno + 1 else 2 ^ 64) number)
      (faults.ErrnoRange entry)
  Ok (if takes_data reading action then errno else 0)

-- an action with its errno, which is 1 (EPERM) where it takes one and has none
unfoldable pub answer_in : Reading → Option ℕ → List ℕ → List ℕ → Data → Result Answer LoadFault
answer_in reading entry name errno_name d = do
  action ← required entry name as_str d >>= λ text. ok_or (action_named text) (faults.Action entry)
  errno ← option_map_or (errno_of reading entry action) (member errno_name d) (Ok (if takes_errno action then 1 else 0))
  Ok (record { 0 = answer_of action errno })

-- ---- what depends on an engine, and texts

-- an empty object or an empty array
abbrev pub is_empty : Data → Bool
is_empty d =
    option_map_or (λ ds. items_len ds == 0) (as_array d) (option_map_or (λ ms. members_len ms == 0) (as_object d) false)

-- the member has to be absent or empty, of whatever kind it is
unfoldable pub no_engine_form : Option ℕ → List ℕ → Data → Result ⊤ LoadFault
no_engine_form entry name d = refused_if (not (option_map_or is_empty (member name d) true)) (faults.EngineForm entry)

-- the strings of an array
abbrev pub strings_of : Option ℕ → Items → Result (List (List ℕ)) LoadFault
strings_of entry items = each (λ before d. ok_or (as_str d) (faults.Kind entry)) [] items

-- ---- a member of `args`

-- the seven operators by name
abbrev pub operator_named : List ℕ → Option Operator
operator_named name = lookup (bytes_eq name) (
    (codes "SCMP_CMP_NE", operators.NotEqual) ∷ (codes "SCMP_CMP_LT", operators.Less)
    ∷ (codes "SCMP_CMP_LE", operators.LessOrEqual) ∷ (codes "SCMP_CMP_EQ", operators.Equal)
    ∷ (codes "SCMP_CMP_GE", operators.GreaterOrEqual) ∷ (codes "SCMP_CMP_GT", operators.Greater)
    ∷ (codes "SCMP_CMP_MASKED_EQ", operators.MaskedEqual) ∷ [])

-- one member, after members that state these conditions; a runtime takes several on one argument
unfoldable pub condition_of : Reading → Option ℕ → List Condition → Data → Result Condition LoadFault
condition_of reading entry earlier d = do
  _ ← ok_or (as_object d) (faults.Kind entry)
  index ← required entry (codes "index") whole_number d
      >>= λ number. ok_or (number_below seccomp_data_args number) (faults.Index entry)
  op ← required entry (codes "op") as_str d >>= λ text. ok_or (operator_named text) (faults.Operator entry)
  value ← required entry (codes "value") unsigned_number d
  value_two ← optional 0 entry (codes "valueTwo") unsigned_number d
  _ ← refused_if (not (is_runtime reading) && list_any (λ c. c.index == index) earlier) (faults.RepeatedIndex entry)
  Ok (record { index = index; op = op; value = value; value_two = value_two })

-- ---- an entry of `syscalls`

unfoldable pub entry_of : Reading → Option ℕ → Data → Result Entry LoadFault
entry_of reading entry d = do
  _ ← ok_or (as_object d) (faults.Kind entry)
  _ ← no_engine_form entry (codes "includes") d
  _ ← no_engine_form entry (codes "excludes") d
  names ← required entry (codes "names") as_array d
      >>= λ items. refused_if (items_len items == 0) (faults.EmptyNames entry) >>= λ _. strings_of entry items
  answer ← answer_in reading entry (codes "action") (codes "errnoRet") d
  conditions ← optional no_items entry (codes "args") as_array d >>= each (condition_of reading entry) []
      >>= λ all. Ok (conditions_read reading all)
  Ok (record { names = names; conditions = conditions; answer = answer })

-- ---- the seccomp object

-- an object, as it is
abbrev pub object : Data → Option Data
object d = option_map (λ _. d) (as_object d)

-- the root, where it has a `defaultAction` or has no `linux`, or what stands in it as linux.seccomp
unfoldable pub seccomp_of : Data → Result Data LoadFault
seccomp_of root =
    if is_some (member (codes "defaultAction") root) || is_none (member (codes "linux") root)
    then ok_or (object root) (faults.Kind None)
    else required None (codes "linux") object root >>= required None (codes "seccomp") object

-- the entries; each is at its index, which is how many stand before it
unfoldable pub entries_of : Reading → Data → Result (List Entry) LoadFault
entries_of reading d = do
  _ ← no_engine_form None (codes "archMap") d
  optional no_items None (codes "syscalls") as_array d >>= each (λ before. entry_of reading (Some (length before))) []

-- ---- with call tables

-- call tables, each with the architecture whose calls it names
abbrev pub Tables : Type 0
Tables = List (Architecture × Names)

abbrev pub tables_of : List ArchitectureTable → Tables
tables_of tables = map (λ t. (t.architecture, t.table.now)) tables

-- the architecture of a name
abbrev pub is_named : List ℕ → Architecture → Bool
is_named name architecture = bytes_eq (row_of architecture).name name

-- the first table of an architecture
abbrev pub table_for : Tables → Architecture → Option Names
table_for tables architecture =
    option_map (λ t. t.1) (find (λ t. is_named (row_of architecture).name t.0) tables)

-- the number in the architecture's call records of each occurrence of a name that the table has
abbrev pub numbers_named : Architecture → Names → List (List ℕ) → List ℕ
numbers_named architecture table names =
    filter_map (λ name. option_map (λ number. (row_of architecture).first + number) (get table name)) names

-- the rules that an entry at an index states by conditions: one for each of its numbers
abbrev pub rules_numbered : ℕ → List Condition → Answer → List ℕ → List Rule
rules_numbered index conditions answer numbers =
    map (λ number. record { number = number; conditions = conditions; answer = answer; entry = index }) numbers

-- by each of the alternatives of an entry at an index; none where entries with its answer are left out
abbrev pub rules_of_entry : Option Answer → Architecture → Names → ℕ → Entry → List Rule
rules_of_entry left_out architecture table index e =
    if option_map_or (λ answer. answer.0 == e.answer.0) left_out false then []
    else flat_map (λ conditions. rules_numbered index conditions e.answer (numbers_named architecture table e.names))
    (alternatives e.conditions)

-- those of the entries from this index on
abbrev pub rules_from : Option Answer → Architecture → Names → ℕ → List Entry → List Rule
rules_from left_out architecture table index [] = []
rules_from left_out architecture table index (e ∷ es) =
    rules_of_entry left_out architecture table index e ++ rules_from left_out architecture table (index + 1) es

-- each occurrence of a name that no table has
abbrev pub skipped_names : Tables → List Entry → List (List ℕ)
skipped_names tables entries =
    filter (λ name. list_all (λ t. is_none (get t.1 name)) tables) (flat_map (λ e. e.names) entries)

-- the names of architectures that have no table
abbrev pub other_names : Tables → List (List ℕ) → List (List ℕ)
other_names tables names = filter (λ name. not (list_any (λ t. is_named name t.0) tables)) names

-- the profile of an architecture that has a table
abbrev pub profile_for : Option Answer → Tables → Answer → List Entry → Architecture → Option Profile
profile_for left_out tables default_answer entries architecture = option_map (λ table. record {
  architecture = architecture;
  default_answer = default_answer;
  rules = rules_from left_out architecture table 0 entries;
  stub = None;
}) (table_for tables architecture)

-- those of all architectures, in their order
abbrev pub profiles_from : Option Answer → Tables → Answer → List Entry → List Profile
profiles_from left_out tables default_answer entries =
    filter_map (profile_for left_out tables default_answer entries) architectures

-- ---- which architectures have to be listed

-- No names stand for the machine's own architecture: x86-64 where it has a table, and else aarch64. A runtime's filter
-- has that one beside all names.
abbrev pub listed_names : Reading → Tables → List (List ℕ) → List (List ℕ)
listed_names reading tables names =
    if not (is_runtime reading) && nat_lt 0 (length names) then names
    else (row_of (if is_some (table_for tables X8664) then X8664 else Aarch64)).name ∷ names

-- each table's architecture has to be among the names; the tables begin at this index
unfoldable pub all_listed : ℕ → List (List ℕ) → Tables → Result ⊤ LoadFault
all_listed index names [] = Ok tt
all_listed index names ((architecture, table) ∷ tables) = do
  _ ← refused_if (not (list_any (λ name. is_named name architecture) names)) (faults.NotListed index)
  all_listed (index + 1) names tables

-- ---- what the root states, but for conflicts among its rules

unfoldable pub profiles_of : Reading → Tables → Data → Result LoadedProfiles LoadFault
profiles_of reading tables root = do
  d ← seccomp_of root
  default_answer ← answer_in reading None (codes "defaultAction") (codes "defaultErrnoRet") d
  names ← optional no_items None (codes "architectures") as_array d >>= strings_of None
  _ ← all_listed 0 (listed_names reading tables names) tables
  entries ← entries_of reading d
  _ ← refused_if
      (list_any (λ p. nat_lt max_rules (length p.rules))
      (profiles_from (left_out reading default_answer) tables default_answer entries))
      faults.TooMany
  Ok (record {
    profiles = map (effective_profile reading)
        (profiles_from (left_out reading default_answer) tables default_answer entries);
    skipped = skipped_names tables entries;
    other_architectures = other_names tables names;
  })

-- ---- the stub, which no text states

-- the profile with this stub, if it is of the architecture
abbrev pub with_stub : Architecture → Option ℕ → Profile → Profile
with_stub architecture first p =
    if is_named (row_of architecture).name p.architecture then record p { stub = first } else p
