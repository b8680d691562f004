-- Which texts have a token, so that memory may be wanted for them.
use Rattle.scf_text.proofs.Common.{◌≡◌, ◌≢◌, ℕ, ◌+◌, ◌<◌, List, [], ◌∷◌, length, map, Result, refl, sym, ap, ◌∙◌, arith, nat_tests, OnErr, flat_map, NumberedInsn, Lexeme, lines_of, words_of_line, tokens_of, Statement, statements_of, statements_from, parsed_insns_in, labels_from, HaveTokens, parsed_insns_view}
use Rattle.scf_text.proofs.TokenLemmas.{words_are_tokens}
use Rattle.scf_text.proofs.ReadLemmas.{none_in_front}
use Rattle.std.proofs.lemmas.Grind.{common_steps}

pub none_mapped : {A B : Type 0} (f : A → B) (xs : List A) → map f xs ≡ [] → xs ≡ []
none_mapped f [] e = refl
none_mapped f (x ∷ xs) e = absurd cc

no_drafts : (ss : List Statement) → flat_map (λ (s : Statement). s.tokens) ss ≡ [] → flat_map parsed_insns_in ss ≡ []
no_drafts [] none = refl
no_drafts (s ∷ ss) none = grind (arith, common_steps, nat_tests, none_in_front, no_drafts ss)

pub no_labels : (at : ℕ) (ss : List Statement) → flat_map (λ (s : Statement). s.tokens) ss ≡ [] → labels_from at ss ≡ []
no_labels at [] none = refl
no_labels at (s ∷ ss) none = grind (arith, common_steps, nat_tests, none_in_front, no_labels (at + 0) ss)

-- some instruction was read where one of them is refused
pub drafts_words : {T E : Type 0} (ss : List Statement) (insns : List NumberedInsn) (r : Result T E)
    → parsed_insns_view insns ≡ flat_map parsed_insns_in ss → OnErr r (0 < length insns) → OnErr r (HaveTokens ss)
drafts_words ss insns r read some = grind (arith, common_steps, nat_tests, none_mapped, no_drafts)

no_tokens : (n : ℕ) (lines : List (List ℕ)) → flat_map words_of_line lines ≡ []
    → flat_map (λ (s : Statement). s.tokens) (statements_from n lines) ≡ []
no_tokens n [] none = refl
no_tokens n (line ∷ lines) none = grind (arith, common_steps, nat_tests, none_in_front, no_tokens (n + 1) lines)

-- then the text has a token
pub words_tokens : (text : List ℕ) → HaveTokens (statements_of text) → tokens_of text ≢ []
words_tokens text some = λ none.
    some (no_tokens 1 (lines_of text) (sym (words_are_tokens text) ∙ ap (map (λ (t : Lexeme). t.text)) none))
