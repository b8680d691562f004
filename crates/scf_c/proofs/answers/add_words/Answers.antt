use Rattle.std.proofs.Common.{List, ℕ, Some, [], ◌++◌, ◌+◌, ◌∙◌, ◌∷◌, ◌≡◌, add-one, ap, append-nil, append_assoc, arith, flat_map, slice_get, suc, sym, zero}
use Rattle.std.proofs.lemmas.Grind.{flat_map-append}
use Rattle.std.specs.List.{range_with_len}
use Rattle.std.specs.Option.{option_map_or}
use Rattle.scf_facts.specs.WordSets.{NumberFacts}
use Rattle.scf_c.specs.Answers.{facts_of_set, facts_to}
use Rattle.scf_c.specs.declared.layout.WordFact.{WordFact}
use Rattle.scf_c.proofs.answers.add_words.Goals as goal

range_more : (a n j : ℕ) → a + n ≡ j → range_with_len a (suc n) ≡ range_with_len a n ++ (j ∷ [])
range_more a zero j e = ap (λ (i : ℕ). i ∷ []) (omega (arith, e))
range_more a (suc n) j e = ap (λ (t : List ℕ). a ∷ t) (range_more (a + 1) n j (omega (arith, e)))

-- one word more
facts_more : (words : List NumberFacts) (i : ℕ) (word : NumberFacts) → slice_get words i ≡ Some word
    → facts_to i words ++ facts_of_set i word ≡ facts_to (i + 1) words
facts_more words i word is =
    let facts : ℕ → List WordFact = λ index. option_map_or (facts_of_set index) (slice_get words index) [] in
    let one : flat_map facts (i ∷ []) ≡ facts_of_set i word = rw is (append-nil (facts_of_set i word)) in
    let more : range_with_len 0 (i + 1) ≡ range_with_len 0 i ++ (i ∷ []) =
    rw (add-one i) (range_more 0 i i (omega arith)) in
    sym (ap (λ (t : List ℕ). flat_map facts t) more ∙ flat_map-append facts (range_with_len 0 i) (i ∷ [])
    ∙ ap (λ (t : List WordFact). facts_to i words ++ t) one)

pub loop-index-preserved : goal.loop-index-preserved
loop-index-preserved c = rw c.loop-index.invariant at c.in_ok-add_set.ensures
    ∙ append_assoc _ (facts_to c.loop-index.index c.args.words.now) _
    ∙ ap (λ (facts : List WordFact). c.args.facts.now.items ++ facts)
    (facts_more c.args.words.now c.loop-index.index _ c.word.ensures.word)
