-- What the parts of a bundle hold, part by part.
use Rattle.std.proofs.lemmas.List.Sums.{fold_more}
use Rattle.scf_request.proofs.Common.{◌≡◌, ◌<◌, ◌+◌, ℕ, List, length, take, get_or, sym, ap₂, ◌∙◌, Part, Held, content_of, held_of, holds_nothing, with_part}

-- one more part
pub held_more : (bytes content : List ℕ) (parts : List Part) (i : ℕ) (d : Part) (old new : Held) → i < length parts
    → content ≡ content_of bytes (get_or parts i d) → old ≡ held_of bytes (take i parts)
    → new ≡ with_part (get_or parts i d).kind content old → new ≡ held_of bytes (take (i + 1) parts)
held_more bytes content parts i d old new lt is before added =
    added
    ∙ ap₂ (λ (text : List ℕ) (held : Held). with_part (get_or parts i d).kind text held) is before
    ∙ sym (fold_more (λ (held : Held) (part : Part). with_part part.kind (content_of bytes part) held) holds_nothing
    parts i d lt)
