-- What the program prints of regions.
use Rattle.std.specs.Prelude.{◌==◌, ◌&&◌, ◌-◌, ◌^◌, ℕ, Bool, true, false, not, List, [], ◌∷◌, ◌++◌, codes, filter, length, min, slice_get, sum_by, Option, Some, None, if◌then◌else◌}
use Rattle.std.specs.List.{flat_map, join_by, range_with_len}
use Rattle.std.specs.Fmt.{decimal}
use Rattle.std.specs.Option.{option_map_or}
use Rattle.scf_insn.specs.declared.answer.Answer.{Answer}
use Rattle.scf_facts.specs.declared.bits.Bits.{Bits}
use Rattle.scf_facts.specs.declared.interval.Interval.{Interval}
use Rattle.scf_facts.specs.WordSets.{NumberFacts}
use Rattle.scf_compare.specs.declared.comparison.PairLeaf.{PairLeaf}
use Rattle.scf_compare.specs.declared.origin.Origin.{Origin}
use Rattle.scf_compare.specs.declared.origin.Origin.TheVariants.{Filter, Profile}
use Rattle.scf_compare.specs.declared.region.Region.{Region}
use Rattle.scf_compare.specs.declared.regions.Regions.{Regions}
use Rattle.scf_compare.specs.declared.side_tree.SideLeaf.{SideLeaf}
use Rattle.scf_tool.specs.Lines.{answer_text, insn_text, reason_words}
use Rattle.scf_tool.specs.Reports.{call_line, prefixed}
use Rattle.scf_tool.specs.declared.region_lines.RegionFormat.{RegionFormat}

-- ---- what is known of a word

-- an interval by its ends, or by its only number
abbrev pub interval_text : Interval → List ℕ
interval_text interval =
    if interval.low == interval.high then prefixed interval.low
    else prefixed interval.low ++ (codes "-" ++ prefixed interval.high)

-- the intervals are the whole word
abbrev pub are_whole : List Interval → Bool
are_whole (interval ∷ []) = interval.low == 0 && interval.high == 2 ^ 32 - 1
are_whole intervals = false

-- the intervals with commas between, unless they are the whole word
abbrev pub intervals_text : List Interval → List ℕ
intervals_text intervals = if are_whole intervals then [] else join_by interval_text (codes ",") intervals

-- a mask and a value behind a sign
abbrev pub bits_text : List ℕ → Bits → List ℕ
bits_text sign bits = sign ++ (prefixed bits.mask ++ (codes "=" ++ prefixed bits.value))

-- a word by its index, if something is known of it: its intervals, its known bits and those that are refuted
abbrev pub word_text : ℕ → NumberFacts → List ℕ
word_text index facts =
    if are_whole facts.intervals && (facts.known.mask == 0 && length facts.refuted == 0) then []
    else codes " w" ++ (decimal index ++ (codes " " ++ (intervals_text facts.intervals
    ++ ((if facts.known.mask == 0 then [] else bits_text (codes "&") facts.known)
    ++ flat_map (bits_text (codes "!")) facts.refuted))))

-- what is known of so many words, from the first on
abbrev pub words_text : ℕ → List NumberFacts → List ℕ
words_text count words =
    flat_map (λ index. option_map_or (word_text index) (slice_get words index) []) (range_with_len 0 count)

-- ---- a region

-- where an answer comes from: the filter and its instruction, or the reason of a profile
abbrev pub origin_text : Origin → List ℕ
origin_text (Filter filter index) = insn_text filter index
origin_text (Profile reason) = reason_words reason

-- what one side answers, if that is known, and where that comes from
abbrev pub side_text : SideLeaf → List ℕ
side_text leaf = option_map_or (λ answer. answer_text answer.0) leaf.answer (codes "unknown") ++ origin_text leaf.origin

-- this of the left side, and that of the right one beside it if both are printed
abbrev pub leaf_text : Bool → PairLeaf → List ℕ
leaf_text false leaf = side_text leaf.left
leaf_text true leaf = side_text leaf.left ++ (codes " beside " ++ side_text leaf.right)

-- The line of a region, which is open if it isn't exact, and that of a record in it, if examples are asked for and one
-- is known.
abbrev pub region_text : RegionFormat → Region → List ℕ
region_text format region =
    leaf_text format.has_differences region.leaf ++ ((if region.is_exact then [] else codes " open")
    ++ (words_text 16 region.words ++ (codes "\n"
    ++ (if format.has_examples then option_map_or call_line region.example [] else []))))

-- ---- all regions

-- both answers of a leaf are known, and the same
abbrev pub is_alike : PairLeaf → Bool
is_alike leaf =
    option_map_or (λ (left : Answer). option_map_or (λ (right : Answer). left.0 == right.0) leaf.right.answer false)
    leaf.left.answer false

-- the regions that are listed: all, or those that aren't known to be answered alike
abbrev pub listed_regions : Bool → Regions → List Region
listed_regions has_differences regions =
    filter (λ region. not (has_differences && is_alike region.leaf)) regions.list.items

-- a count as a 64-bit number, which ends at the greatest
abbrev pub saturated : ℕ → ℕ
saturated count = min count (2 ^ 64 - 1)

-- The listed regions of walks, one after another, how many they are, and in how many steps; or that the walks are
-- unfinished.
abbrev pub listing_text : RegionFormat → Option (List Regions) → List ℕ
listing_text format None = codes "unfinished\n"
listing_text format (Some walks) =
    let listed = flat_map (listed_regions format.has_differences) walks in
    flat_map (region_text format) listed
    ++ (codes "regions " ++ (decimal (saturated (length listed))
    ++ (codes " steps " ++ (decimal (saturated (sum_by (λ regions. regions.steps) walks)) ++ codes "\n"))))
