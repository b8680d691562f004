-- Files one after another, each behind a header.
use Rattle.std.specs.Prelude.{Contains, ◌≡◌, ◌≢◌, ℕ, ◌+◌, ◌<◌, ◌≤◌, true, false, List, [], ◌∷◌, ◌++◌, length, take, drop, codes, fold, map, Some}
use Rattle.scf_insn.specs.Architectures.{architectures, row_of}
use Rattle.scf_insn.specs.Numbers.{numeral}
use Rattle.scf_insn.specs.declared.architecture.Architecture.{Architecture}
use Rattle.scf_insn.specs.declared.architecture.Architecture.TheVariants.{X8664}
use Rattle.scf_request.specs.declared.bundle.PartKind.{PartKind}
use Rattle.scf_request.specs.declared.bundle.PartKind.TheVariants.{Beside, BesideProfile, CountsOf, Filter, Profile, StubOf, Table, TableOf}
use Rattle.scf_request.specs.declared.bundle.BundleForm.{BundleForm}
use Rattle.scf_request.specs.declared.bundle.BundleForm.TheVariants.{Profile as OfProfile, Architectures as OfArchitectures, Beside as OfBeside}
use Rattle.scf_request.specs.declared.bundle.Part.{Part}
use Rattle.scf_request.specs.declared.bundle.BundleFault.{BundleFault}
use Rattle.scf_request.specs.declared.bundle.BundleFault.TheVariants.{Header, Short, Memory}

-- the beginning and the end of the word of a kind
abbrev pub word_parts : PartKind → List ℕ × List ℕ
word_parts Filter = ([], codes "filter")
word_parts Profile = ([], codes "profile")
word_parts Table = ([], codes "table")
word_parts Beside = ([], codes "beside")
word_parts BesideProfile = ([], codes "beside-profile")
word_parts (TableOf architecture) = ([], (row_of architecture).part)
word_parts (StubOf architecture) = (codes "stub-", (row_of architecture).part)
word_parts (CountsOf architecture) = (codes "counts-", (row_of architecture).part)

abbrev pub kind_word : PartKind → List ℕ
kind_word kind = (word_parts kind).0 ++ (word_parts kind).1

-- the kinds of parts of a bundle by itself
abbrev pub split_kinds : List PartKind
split_kinds = Filter ∷ Profile ∷ Table ∷ []

-- Those by the form of a bundle. With several architectures each of them may have a table, a stub and counts of calls;
-- beside other filters there is a table call by call.
abbrev pub kinds_of : BundleForm → List PartKind
kinds_of OfProfile = Filter ∷ Profile ∷ BesideProfile ∷ Table ∷ StubOf X8664 ∷ CountsOf X8664 ∷ []
kinds_of OfArchitectures =
    Filter ∷ Profile ∷ BesideProfile ∷ map (λ architecture. TableOf architecture) architectures
    ++ map (λ architecture. StubOf architecture) architectures
    ++ map (λ architecture. CountsOf architecture) architectures
kinds_of (OfBeside true) = Filter ∷ Beside ∷ Table ∷ []
kinds_of (OfBeside false) = Filter ∷ Beside ∷ []

-- The header of a part: the word of its kind, one space, one to eight decimal digits that write the count of the bytes
-- that follow, LF.
pub record IsHeader (header : List ℕ) (kind : PartKind) (count : ℕ) : Type 0 where
  pub digits : List ℕ
  pub is_count : (length digits ≤ 8) × (numeral 10 digits ≡ Some count)
  pub text : header ≡ (kind_word kind ++ (codes " " ++ digits)) ++ codes "\n"

-- A header stands in front.
pub record HasHeader (bytes : List ℕ) (kind : PartKind) (count : ℕ) : Type 0 where
  pub header : List ℕ
  pub content : List ℕ
  pub is_header : IsHeader header kind count
  pub whole : bytes ≡ header ++ content

-- Bytes are a part of a bundle, from an offset on: a header of one of these kinds, and as many bytes as it says.
pub record IsBundlePart (kinds : List PartKind) (offset : ℕ) (part : Part) (bytes : List ℕ) : Type 0 where
  pub is_kind : Contains kinds part.kind
  pub front : HasHeader bytes part.kind part.length
  pub start : part.start ≡ offset + length front.header
  pub size : part.length ≡ length front.content

-- Bytes from an offset on spell parts of these kinds: they are these parts, one after another, and nothing else.
abbrev pub SpellsParts : List PartKind → ℕ → List ℕ → List Part → Type 0
SpellsParts kinds offset bytes [] = bytes ≡ []
SpellsParts kinds offset bytes (part ∷ parts) =
    (of_part : List ℕ) × (behind : List ℕ) × (bytes ≡ of_part ++ behind) × IsBundlePart kinds offset part of_part
    × SpellsParts kinds (offset + length of_part) behind parts

-- The bytes from an offset on begin with no whole part: they go on, and no header of one of these kinds stands in
-- front, or one does, and fewer bytes follow than it says. Want of memory may come anywhere.
abbrev pub IsPartFault : List PartKind → List ℕ → ℕ → BundleFault → Type 0
IsPartFault kinds bytes at (Header offset) = (offset ≡ at) × (bytes ≢ [])
    × ((kind : PartKind) (count : ℕ) → Contains kinds kind → HasHeader bytes kind count → ⊥)
IsPartFault kinds bytes at (Short offset) = (offset ≡ at) × (kind : PartKind) × (count : ℕ) × Contains kinds kind
    × (front : HasHeader bytes kind count) × (length front.content < count)
IsPartFault kinds bytes at Memory = ⊥

-- why bytes are refused: behind whole parts this stands at an offset
abbrev pub AreNoParts : List PartKind → List ℕ → BundleFault → Type 0
AreNoParts kinds bytes Memory = Unit {0}
AreNoParts kinds bytes fault = (offset : ℕ) × (parts : List Part)
    × SpellsParts kinds 0 (take offset bytes) parts × IsPartFault kinds (drop offset bytes) offset fault

-- ---- a bundle by itself

-- the bytes of a bundle spell its parts
abbrev pub SpellsBundle : List ℕ → List Part → Type 0
SpellsBundle bytes parts = SpellsParts split_kinds 0 bytes parts

abbrev pub IsFaultAt : List ℕ → ℕ → BundleFault → Type 0
IsFaultAt bytes at fault = IsPartFault split_kinds bytes at fault

abbrev pub IsBundleFault : List ℕ → BundleFault → Type 0
IsBundleFault bytes fault = AreNoParts split_kinds bytes fault

-- ---- what parts hold

-- what a part holds: the bytes behind its header
abbrev pub content_of : List ℕ → Part → List ℕ
content_of bytes part = take part.length (drop part.start bytes)

-- What the parts of a bundle hold, those of each kind in their order.
pub record Held : Type 0 where
  pub filters : List (List ℕ)
  pub profiles : List (List ℕ)
  pub beside : List (List ℕ)
  pub beside_profiles : List (List ℕ)
  pub tables : List (Architecture × List ℕ)
  pub stubs : List (Architecture × List ℕ)
  pub counts : List (Architecture × List ℕ)

-- one more part is held, behind those of its kind
abbrev pub with_part : PartKind → List ℕ → Held → Held
with_part Filter bytes held = record held { filters = held.filters ++ bytes ∷ [] }
with_part Profile bytes held = record held { profiles = held.profiles ++ bytes ∷ [] }
with_part Beside bytes held = record held { beside = held.beside ++ bytes ∷ [] }
with_part BesideProfile bytes held = record held { beside_profiles = held.beside_profiles ++ bytes ∷ [] }
with_part Table bytes held = record held { tables = held.tables ++ (X8664, bytes) ∷ [] }
with_part (TableOf architecture) bytes held = record held { tables = held.tables ++ (architecture, bytes) ∷ [] }
with_part (StubOf architecture) bytes held = record held { stubs = held.stubs ++ (architecture, bytes) ∷ [] }
with_part (CountsOf architecture) bytes held = record held { counts = held.counts ++ (architecture, bytes) ∷ [] }

abbrev pub holds_nothing : Held
holds_nothing =
    record { filters = []; profiles = []; beside = []; beside_profiles = []; tables = []; stubs = []; counts = [] }

abbrev pub held_of : List ℕ → List Part → Held
held_of bytes = fold (λ held part. with_part part.kind (content_of bytes part) held) holds_nothing

-- Bytes are a bundle of a form, whose parts hold this.
pub record IsBundle (form : BundleForm) (bytes : List ℕ) (held : Held) : Type 0 where
  pub parts : List Part
  pub spelled : SpellsParts (kinds_of form) 0 bytes parts
  pub is_held : held ≡ held_of bytes parts
