-- The answers of a side, by regions of records, as numbers.
use Rattle.std.specs.Prelude.{◌≡◌, ◌==◌, ◌⊎◌, ◌++◌, ◌≤◌, ℕ, Bool, true, false, List, [], ◌∷◌, Option, Some, None}
use Rattle.std.specs.Prelude.{flat_map, is_some, length, map, slice_get, if◌then◌else◌}
use Rattle.std.specs.List.{range_with_len}
use Rattle.std.specs.Option.{option_map_or}
use Rattle.scf_insn.specs.declared.answer.Answer.{Answer}
use Rattle.scf_facts.specs.declared.bits.Bits.{Bits}
use Rattle.scf_facts.specs.declared.interval.Interval.{Interval}
use Rattle.scf_facts.specs.WordSets.{NumberFacts}
use Rattle.scf_compare.specs.declared.origin.Origin.{Origin}
use Rattle.scf_compare.specs.declared.origin.Origin.TheVariants.{Filter, Profile}
use Rattle.scf_compare.specs.declared.region.Region.{Region}
use Rattle.scf_compare.specs.declared.regions.Regions.{Regions}
use Rattle.scf_tool.specs.Explorations.{Explores}
use Rattle.scf_tool.specs.RegionLines.{are_whole}
use Rattle.scf_tool.specs.declared.plan.Pairing.{Pairing}
use Rattle.scf_tool.specs.declared.sides.SideInput.{SideInput as ReadSide}
use Rattle.scf_tool.specs.declared.sides.SideInput.TheVariants.{Stack}
use Rattle.scf_tool.specs.declared.verify_fault.VerifyFault.{VerifyFault}
use Rattle.scf_tool.specs.declared.verify_fault.VerifyFault.TheVariants.{Memory}
use Rattle.scf_c.specs.declared.answers.Listed.{Listed}
use Rattle.scf_c.specs.declared.layout.Listing.{Listing}
use Rattle.scf_c.specs.declared.layout.Question.{Question}
use Rattle.scf_c.specs.declared.layout.RegionNumbers.{RegionNumbers}
use Rattle.scf_c.specs.declared.layout.SideInput.{SideInput}
use Rattle.scf_c.specs.declared.layout.Table.{Table}
use Rattle.scf_c.specs.declared.layout.WordFact.{WordFact}
use Rattle.scf_c.specs.declared.question.Asked.{Asked}
use Rattle.scf_c.specs.Layout.{call_of, no_call}
use Rattle.scf_c.specs.Profiles.{entry_of, nothing_left_out, reason_number}
use Rattle.scf_c.specs.Records.{ArePaired, AreRecordsRefused, tables_in_scope}
use Rattle.scf_c.specs.Sides.{IsRead, IsSideRefused, left_out_of_side}

-- ---- as numbers

abbrev pub interval_fact : ℕ → Interval → WordFact
interval_fact index interval = record { word = index; kind = 1; low = interval.low; high = interval.high }

abbrev pub bits_fact : ℕ → ℕ → Bits → WordFact
bits_fact kind index bits = record { word = index; kind = kind; low = bits.mask; high = bits.value }

-- The facts about a word: intervals, unless they are the whole word, the bits that it has, if any, and those that it
-- doesn't have.
abbrev pub facts_of_set : ℕ → NumberFacts → List WordFact
facts_of_set index facts =
    (if are_whole facts.intervals then [] else map (interval_fact index) facts.intervals)
    ++ ((if facts.known.mask == 0 then [] else bits_fact 2 index facts.known ∷ [])
    ++ map (bits_fact 3 index) facts.refuted)

-- of so many words, from the first on
abbrev pub facts_to : ℕ → List NumberFacts → List WordFact
facts_to count words =
    flat_map (λ index. option_map_or (facts_of_set index) (slice_get words index) []) (range_with_len 0 count)

-- of a record's words
abbrev pub facts_of : Region → List WordFact
facts_of region = facts_to 16 region.words

abbrev pub bit_of : Bool → ℕ
bit_of true = 1
bit_of false = 0

abbrev pub reason_of_origin : Origin → ℕ
reason_of_origin (Filter filter index) = 0
reason_of_origin (Profile reason) = reason_number reason

abbrev pub entry_of_origin : Origin → ℕ
entry_of_origin (Filter filter index) = 0
entry_of_origin (Profile reason) = entry_of reason

abbrev pub filter_of_origin : Origin → ℕ
filter_of_origin (Filter filter index) = filter
filter_of_origin (Profile reason) = 0

abbrev pub index_of_origin : Origin → ℕ
index_of_origin (Filter filter index) = index
index_of_origin (Profile reason) = 0

abbrev pub numbers_of_region : Region → RegionNumbers
numbers_of_region region = let side = region.leaf.left in record {
  answer = option_map_or (λ (answer : Answer). answer.0) side.answer 0;
  is_known = bit_of (is_some side.answer);
  is_exact = bit_of region.is_exact;
  has_example = bit_of (is_some region.example);
  reason = reason_of_origin side.origin;
  entry = entry_of_origin side.origin;
  filter = filter_of_origin side.origin;
  index = index_of_origin side.origin;
  fact_count = length (facts_of region);
  example = option_map_or call_of region.example no_call;
  reserved = 0 ∷ 0 ∷ 0 ∷ 0 ∷ [];
}

-- all regions of walks
abbrev pub all_regions : List Regions → List Region
all_regions listed = flat_map (λ regions. regions.list.items) listed

-- ---- a listing

abbrev pub no_listing : Listing
no_listing = record { is_finished = 0; unused = 0; left_out = nothing_left_out }

-- the regions of walks as numbers: none if they are unfinished
abbrev pub regions_handed : Option (List Regions) → List RegionNumbers
regions_handed None = []
regions_handed (Some listed) = map numbers_of_region (all_regions listed)

abbrev pub facts_handed : Option (List Regions) → List WordFact
facts_handed None = []
facts_handed (Some listed) = flat_map facts_of (all_regions listed)

-- A side is read, and walked beside a stack without filters over the records that are asked for; this is handed out.
pub record IsListed (question : Question) (side : SideInput) (tables : List Table) (asked : Asked) (listed : Listed)
    : Type 0 where
  pub read : ReadSide
  pub pairings : List Pairing
  pub walks : Option (List Regions)
  pub is_side : IsRead side asked.left tables read
  pub are_paired : ArePaired asked.over read (Stack []) tables pairings
  pub some : 1 ≤ length pairings
  pub lists : Explores pairings question.total_limit walks
  pub listing_is : listed.listing
      ≡ record { is_finished = bit_of (is_some walks); unused = 0; left_out = left_out_of_side read }
  pub regions_are : listed.regions.items ≡ regions_handed walks
  pub facts_are : listed.facts.items ≡ facts_handed walks

-- It is read, and there is no record: no table counts, or none of those that count has a syscall.
pub record IsListedOverNone (side : SideInput) (tables : List Table) (asked : Asked) : Type 0 where
  pub read : ReadSide
  pub pairings : List Pairing
  pub is_side : IsRead side asked.left tables read
  pub are_paired : ArePaired asked.over read (Stack []) tables pairings
  pub none : length pairings ≡ 0

-- Why it isn't: the first fault of the side or of a table, or out of memory, which may come at any time.
abbrev pub IsListingRefused : SideInput → List Table → Asked → VerifyFault → Type 0
IsListingRefused side tables asked why =
    (why ≡ Memory) ⊎ (IsSideRefused side asked.left tables why
    ⊎ ((read : ReadSide) × IsRead side asked.left tables read
    × AreRecordsRefused (tables_in_scope read (Stack []) tables) why))
