use Rattle.scf_compare.specs.declared.region.Region.{Region}
use Rattle.scf_compare.specs.declared.regions.Regions.{Regions}
use Rattle.std.proofs.Common.{◌-◌, ◌^◌, length-append}
use Rattle.std.proofs.Math.Nat.{min-eq_left, min-eq_right}
use Rattle.std.proofs.lemmas.Bool.{cases_lt}
use Rattle.std.proofs.lemmas.Grind.{flat_map-append}
use Rattle.std.proofs.lemmas.List.Elements.{filter_more}
use Rattle.std.proofs.lemmas.List.Sums.{sum_by_more}
use Rattle.std.specs.Prelude.{◌&&◌, filter, min, sum_by}
use Rattle.scf_tool.proofs.Common.{Bool, List, [], ap, append-nil, append_assoc, arith, flat_map, get_or, inl, inr, length, not, sym, take, take_all, take_more, true, ℕ, ◌++◌, ◌+◌, ◌<◌, ◌∙◌, ◌∷◌, ◌≡◌}
use Rattle.scf_tool.specs.RegionLines.{is_alike, listed_regions, region_text, saturated}
use Rattle.scf_tool.specs.declared.region_lines.RegionFormat.{RegionFormat}
use Rattle.scf_tool.proofs.region_lines.listing_of_regions.Goals as goal

-- one region more of a walk
region_more : (is_listed : Region → Bool) (front regions : List Region) (i : ℕ) (region : Region) → i < length regions
    → region ≡ get_or regions i region → is_listed region ≡ true
    → front ++ filter is_listed (take (i + 1) regions) ≡ (front ++ filter is_listed (take i regions)) ++ region ∷ []
region_more is_listed front regions i region lt at listed =
    ap (λ (rs : List Region). front ++ rs) (filter_more is_listed regions i region lt)
    ∙ rw (← at, listed) (sym (append_assoc front (filter is_listed (take i regions)) (region ∷ [])))

-- the text of one region more
text_more : (format : RegionFormat) (listed more : List Region) (region : Region) → more ≡ listed ++ region ∷ []
    → flat_map (region_text format) listed ++ region_text format region ≡ flat_map (region_text format) more
text_more format listed more region is =
    let text : Region → List ℕ = region_text format in
    ap (λ (t : List ℕ). flat_map text listed ++ t) (sym (append-nil (text region)))
    ∙ sym (ap (flat_map text) is ∙ flat_map-append text listed (region ∷ []))

-- one walk more
walk_more : (has_differences : Bool) (walks : List Regions) (i : ℕ) (walk : Regions) → i < length walks
    → walk ≡ get_or walks i walk
    → flat_map (listed_regions has_differences) (take i walks) ++ listed_regions has_differences walk
    ≡ flat_map (listed_regions has_differences) (take (i + 1) walks)
walk_more has_differences walks i walk lt at =
    let listed : Regions → List Region = listed_regions has_differences in
    ap (λ (rs : List Region). flat_map listed (take i walks) ++ rs) (sym (append-nil (listed walk)))
    ∙ sym (ap (flat_map listed) (take_more walks i walk lt)
    ∙ flat_map-append listed (take i walks) (get_or walks i walk ∷ [])
    ∙ ap (λ (w : Regions). flat_map listed (take i walks) ++ (listed w ++ [])) (sym at))

-- more than a count that ends at the greatest number
saturated_more : (n more count : ℕ) → count ≡ saturated n → min (count + more) (2 ^ 64 - 1) ≡ saturated (n + more)
saturated_more n more count is = elim (cases_lt n (2 ^ 64)) [
  | inl few ↦ ap (λ (k : ℕ). min (k + more) (2 ^ 64 - 1)) (is ∙ min-eq_left (omega (arith, few)))
  | inr many ↦ let full : count ≡ 2 ^ 64 - 1 = is ∙ min-eq_right (omega (arith, many)) in
      min-eq_right (omega (arith, full)) ∙ sym (min-eq_right (omega (arith, many)))
]

pub loop-region-preserved : goal.loop-region-preserved
loop-region-preserved c =
    let has_differences = c.args.format.has_differences in
    let regions = c.as_slice-region-items.result.now in
    let front = flat_map (listed_regions has_differences) (take c.loop-walk.walk-index c.args.walks.now) in
    let is_listed : Region → Bool = λ region. not (has_differences && is_alike region.leaf) in
    let i = c.loop-region.region-index in
    let before = front ++ filter is_listed (take i regions) in
    let more = region_more is_listed front regions i c.region-item.result c.loop-region-test.true c.region-item.is
    (grind (arith, c.is_listed.ensures)) in
    record {
      text = c.in_ok-push_region.ensures ∙ ap (λ (t : List ℕ). t ++ region_text c.args.format c.region-item.result)
          c.loop-region.invariant.text ∙ text_more c.args.format before _ c.region-item.result more;
      count = c.saturating_add-count.ensures
          ∙ saturated_more (length before) 1 c.loop-region.count c.loop-region.invariant.count
          ∙ ap saturated (sym (ap length more ∙ length-append before (c.region-item.result ∷ [])));
      steps = c.loop-region.invariant.steps;
    }

pub loop-walk-preserved : goal.loop-walk-preserved
loop-walk-preserved c =
    let has_differences = c.args.format.has_differences in
    let walks = c.args.walks.now in
    let i = c.loop-walk.walk-index in
    let front = flat_map (listed_regions has_differences) (take i walks) in
    let is_listed : Region → Bool = λ region. not (has_differences && is_alike region.leaf) in
    let walk = c.walk-item.result in
    let steps : Regions → ℕ = λ regions. regions.steps in
    let all = take_all c.loop-region.region-index c.as_slice-region-items.result.now
    (omega (arith, c.loop-region-test.false)) in
    let listed = ap (λ (rs : List Region). front ++ filter is_listed rs) (all ∙ c.as_slice-region-items.ensures.value)
    ∙ walk_more has_differences walks i walk c.loop-walk-test.true c.walk-item.is in
    record {
      text = c.loop-region.invariant.text ∙ ap (flat_map (region_text c.args.format)) listed;
      count = c.loop-region.invariant.count ∙ ap (λ (rs : List Region). saturated (length rs)) listed;
      steps = c.saturating_add-steps.ensures
          ∙ saturated_more (sum_by steps (take i walks)) walk.steps c.loop-walk.steps c.loop-region.invariant.steps
          ∙ ap saturated (sym (sum_by_more steps walks i walk c.loop-walk-test.true
          ∙ ap (λ (w : Regions). sum_by steps (take i walks) + steps w) (sym c.walk-item.is)));
    }
