use Rattle.scf_facts.specs.WordSets.{NumberFacts}
use Rattle.std.proofs.Common.{add-one, append-nil, slice_get, suc, zero}
use Rattle.std.proofs.lemmas.Grind.{flat_map-append}
use Rattle.std.specs.List.{range_with_len}
use Rattle.std.specs.Option.{option_map_or}
use Rattle.scf_tool.proofs.Common.{List, Some, [], ap, append_assoc, arith, flat_map, string_bytes, sym, ℕ, ◌++◌, ◌+◌, ◌∙◌, ◌∷◌, ◌≡◌}
use Rattle.scf_tool.specs.RegionLines.{word_text, words_text}
use Rattle.scf_tool.proofs.region_lines.push_words.Goals as goal

range_more : (a n j : ℕ) → a + n ≡ j → range_with_len a (suc n) ≡ range_with_len a n ++ (j ∷ [])
range_more a zero j e = ap (λ (i : ℕ). i ∷ []) (omega (arith, e))
range_more a (suc n) j e = ap (λ (t : List ℕ). a ∷ t) (range_more (a + 1) n j (omega (arith, e)))

-- one word more
words_more : (words : List NumberFacts) (i : ℕ) (word : NumberFacts) → slice_get words i ≡ Some word
    → words_text i words ++ word_text i word ≡ words_text (i + 1) words
words_more words i word is =
    let text : ℕ → List ℕ = λ index. option_map_or (word_text index) (slice_get words index) [] in
    let one : flat_map text (i ∷ []) ≡ word_text i word = rw is (append-nil (word_text i word)) in
    let more : range_with_len 0 (i + 1) ≡ range_with_len 0 i ++ (i ∷ []) =
    rw (add-one i) (range_more 0 i i (omega arith)) in
    sym (ap (λ (t : List ℕ). flat_map text t) more ∙ flat_map-append text (range_with_len 0 i) (i ∷ [])
    ∙ ap (λ (t : List ℕ). words_text i words ++ t) one)

pub loop-index-preserved : goal.loop-index-preserved
loop-index-preserved c =
    let before = string_bytes c.args.text.now in
    let words = c.args.words.now in
    let index = c.loop-index.index in
    let word = c.word.result.now in
    c.in_ok-push_word.ensures ∙ ap (λ (t : List ℕ). t ++ word_text index word) c.loop-index.invariant
    ∙ append_assoc before (words_text index words) (word_text index word)
    ∙ ap (λ (t : List ℕ). before ++ t) (words_more words index word c.word.ensures.word)
