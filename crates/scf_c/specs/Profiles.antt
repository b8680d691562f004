-- Profiles and their tables in the caller's bytes, and their answers as numbers.
use Rattle.std.specs.Prelude.{◌≡◌, ◌≢◌, ◌⊎◌, ◌<◌, ◌≤◌, ℕ, List, [], ◌∷◌, length}
use Rattle.scf_insn.specs.Kernel.{bpf_maxinsns}
use Rattle.scf_profile.specs.declared.loaded.LoadedProfiles.{LoadedProfiles}
use Rattle.scf_profile.specs.declared.reading.Reading.{Reading}
use Rattle.scf_profile.specs.declared.reading.Reading.TheVariants.{Strict, Runc, Crun, Sandbox}
use Rattle.scf_profile.specs.declared.reason.Reason.{Reason}
use Rattle.scf_profile.specs.declared.reason.Reason.TheVariants.{Foreign, Stub, Entry, Default}
use Rattle.scf_compile.specs.SizeBound.{size_bound_of_each}
use Rattle.scf_compile.specs.declared.fault.CompileFault.{CompileFault}
use Rattle.scf_compile.specs.declared.fault.CompileFault.TheVariants as compiles
use Rattle.scf_profile.specs.declared.table_fault.TableFault.TheVariants as faults
use Rattle.scf_request.specs.Interpretations.{Interpretation}
use Rattle.scf_tool.specs.Commands.{AreStated, CantLoadEach}
use Rattle.scf_tool.specs.declared.verify_fault.VerifyFault.{VerifyFault}
use Rattle.scf_tool.specs.declared.verify_fault.VerifyFault.TheVariants as verifies
use Rattle.scf_c.specs.declared.layout.LeftOutCounts.{LeftOutCounts}
use Rattle.scf_c.specs.declared.layout.ProfileAnswer.{ProfileAnswer}
use Rattle.scf_c.specs.declared.layout.ProfileInput.{ProfileInput}
use Rattle.scf_c.specs.declared.layout.Table.{Table}
use Rattle.scf_c.specs.Architectures.{AreMeant, listed_of, stubs_of, texts_of}

-- ---- how a profile is read

abbrev pub reading_number : Reading → ℕ
reading_number Strict = 0
reading_number Runc = 1
reading_number Crun = 2
reading_number Sandbox = 3

-- The numbers of a profile ask for this reading, and there are tables whose numbers have a meaning.
pub record IsReadUnder (profile : ProfileInput) (tables : List Table) (reading : Reading) : Type 0 where
  pub reading_is : profile.reading ≡ reading_number reading
  pub flags : profile.flags ≤ 1
  pub reserved : profile.reserved ≡ 0 ∷ 0 ∷ []
  pub some : 1 ≤ length tables
  pub tables_are : AreMeant tables

-- a reading, with the stubs of tables
abbrev pub interpretation_of : Reading → List Table → Interpretation
interpretation_of reading tables = record { reading = reading; stubs = stubs_of tables }

-- The tables that are used: all, or with the flag those of the architectures that the profile lists, which it states
-- under no table.
abbrev pub AreUsed : ProfileInput → List Table → Reading → List Table → Type 0
AreUsed profile tables reading used =
    ((profile.flags ≡ 0) × (used ≡ tables))
    ⊎ ((profile.flags ≢ 0) × ((listed : LoadedProfiles)
    × AreStated (interpretation_of reading tables) profile.text.now [] listed
    × (used ≡ listed_of reading listed.other_architectures tables)))

-- the profile and the tables that are used state this
abbrev pub IsLoaded : ProfileInput → List Table → Reading → LoadedProfiles → Type 0
IsLoaded profile tables reading loaded = (used : List Table) × AreUsed profile tables reading used
    × AreStated (interpretation_of reading tables) profile.text.now (texts_of used) loaded

-- why they state nothing: out of memory, the profile under no table, or it and the tables that are used
abbrev pub IsProfileRefused : ProfileInput → List Table → Reading → VerifyFault → Type 0
IsProfileRefused profile tables reading why =
    (why ≡ verifies.Table faults.Memory)
    ⊎ (((profile.flags ≢ 0) × CantLoadEach (interpretation_of reading tables) profile.text.now [] why)
    ⊎ ((used : List Table) × AreUsed profile tables reading used
    × CantLoadEach (interpretation_of reading tables) profile.text.now (texts_of used) why))

-- why what they state isn't compiled: the filter would be too large, or out of memory
abbrev pub IsCompilationRefused : ProfileInput → List Table → Reading → CompileFault → Type 0
IsCompilationRefused profile tables reading why = (loaded : LoadedProfiles)
    × IsLoaded profile tables reading loaded
    × (why ≡ compiles.TooLarge → bpf_maxinsns < size_bound_of_each loaded.profiles)

-- ---- as numbers

-- how much of the profile has no table
abbrev pub left_out_of : LoadedProfiles → LeftOutCounts
left_out_of loaded = record {
  not_looked_at = length loaded.other_architectures;
  skipped = length loaded.skipped;
  reserved = 0 ∷ 0 ∷ 0 ∷ 0 ∷ [];
}

abbrev pub nothing_left_out : LeftOutCounts
nothing_left_out = record { not_looked_at = 0; skipped = 0; reserved = 0 ∷ 0 ∷ 0 ∷ 0 ∷ [] }

-- a reason as a number
abbrev pub reason_number : Reason → ℕ
reason_number Default = 1
reason_number (Entry entry) = 2
reason_number Foreign = 3
reason_number Stub = 4

-- the index of its entry
abbrev pub entry_of : Reason → ℕ
entry_of (Entry entry) = entry
entry_of reason = 0

-- an answer, its reason, and what is left out of the profile
abbrev pub answer_of : ℕ → Reason → LoadedProfiles → ProfileAnswer
answer_of answer reason loaded = record {
  answer = answer;
  reason = reason_number reason;
  entry = entry_of reason;
  unused = 0;
  left_out = left_out_of loaded;
}

abbrev pub no_answer : ProfileAnswer
no_answer = record { answer = 0; reason = 0; entry = 0; unused = 0; left_out = nothing_left_out }
