-- Parts of a bundle: one list of them at most is spelled, and a fault stands where none is.
use Rattle.scf_request.proofs.Common.{◌≡◌, ◌≢◌, ℕ, zero, suc, get_or, ◌+◌, ◌-◌, ◌<◌, ◌≤◌, List, [], ◌∷◌, ◌++◌, length, take, drop, refl, sym, ap, ◌∙◌, append_assoc, append-nil, arith, length-append, length-drop, append_cancel_left, take_all, take-append-drop, length-take-le, take-append_seam, take-add, Part, BundleFault, Header, Short, Memory, IsHeader, PartKind, Contains, IsBundlePart, SpellsParts, IsPartFault, AreNoParts, kind_word, split_kinds}
use Rattle.scf_request.proofs.HeaderLemmas.{same_header, header_some}

same_front : (a b r s : List ℕ) → length a ≡ length b → a ++ r ≡ b ++ s → a ≡ b
same_front a b r s long e = sym (take-append_seam a r) ∙ ap (λ (n : ℕ). take n (a ++ r)) long
    ∙ ap (λ (xs : List ℕ). take (length b) xs) e ∙ take-append_seam b s

same_fields : (p q : Part) → p.kind ≡ q.kind → p.start ≡ q.start → p.length ≡ q.length → p ≡ q
same_fields p q h1 h2 h3 = grind arith

pub record SamePart (p q : Part) (a b r s : List ℕ) : Type 0 where
  pub word : kind_word p.kind ≡ kind_word q.kind
  pub start : p.start ≡ q.start
  pub size : p.length ≡ q.length
  pub bytes : a ≡ b
  pub behind : r ≡ s

pub some_left : (o : ℕ) (bs : List ℕ) → o < length bs → drop o bs ≢ []
some_left o bs lt e = omega (arith, length-drop o bs, ap length e)

pub tail : (o : ℕ) (bs : List ℕ) → take (length bs - o) (drop o bs) ≡ drop o bs
tail o bs = take_all (length bs - o) (drop o bs) (omega (arith, length-drop o bs))

-- the kinds have words of their own
abbrev pub AreToldApart : List PartKind → Type 0
AreToldApart kinds = (k l : PartKind) → Contains kinds k → Contains kinds l → kind_word k ≡ kind_word l → k ≡ l

pub split_kinds_told_apart : AreToldApart split_kinds
split_kinds_told_apart k l of_k of_l same = grind arith

module _ (kinds : List PartKind) where
  -- ---- one part

  pub part_some : (o : ℕ) (p : Part) (a : List ℕ) → IsBundlePart kinds o p a → 0 < length a
  part_some o p a h = grind (arith, header_some)

  pub same_part : (o : ℕ) (p q : Part) (a b r s : List ℕ) → IsBundlePart kinds o p a → IsBundlePart kinds o q b
      → a ++ r ≡ b ++ s → SamePart p q a b r s
  same_part o p q a b r s h g e =
      let same = same_header h.front.header g.front.header p.kind q.kind p.length q.length (h.front.content ++ r)
      (g.front.content ++ s) h.front.is_header g.front.is_header (grind (arith, append_assoc)) in
      let content : h.front.content ≡ g.front.content = same_front _ _ r s (cc) same.behind in
      let bytes : a ≡ b = cc in
      record {
        word = same.word;
        start = cc;
        size = same.count;
        bytes = bytes;
        behind = append_cancel_left a r s (cc);
      }

  -- ---- lists of parts

  nothing_more : (o : ℕ) (p : Part) (a r : List ℕ) → IsBundlePart kinds o p a → a ++ r ≡ [] → ⊥
  nothing_more o p a r h1 h2 = grind (arith, part_some)

  pub one_spelling : AreToldApart kinds → (o : ℕ) (bs : List ℕ) (ps qs : List Part) → SpellsParts kinds o bs ps
      → SpellsParts kinds o bs qs → ps ≡ qs
  one_spelling apart o bs [] [] h g = refl
  one_spelling apart o bs [] (q ∷ qs) h g = absurd (nothing_more o q g.0 g.1 g.3 (sym g.2 ∙ h))
  one_spelling apart o bs (p ∷ ps) [] h g = absurd (nothing_more o p h.0 h.1 h.3 (sym h.2 ∙ g))
  one_spelling apart o bs (p ∷ ps) (q ∷ qs) h g =
      let same = same_part o p q h.0 g.0 h.1 g.1 h.3 g.3 (sym h.2 ∙ g.2) in
      let kind : p.kind ≡ q.kind = apart p.kind q.kind h.3.is_kind g.3.is_kind same.word in
      let part : p ≡ q = same_fields p q kind same.start same.size in
      let behind : SpellsParts kinds (o + length h.0) h.1 qs = rw (same.bytes, same.behind) g.4 in
      let others : ps ≡ qs = one_spelling apart (o + length h.0) h.1 ps qs h.4 behind in
      rw (part, others) refl

  -- one more part behind the others
  pub one_more : (o : ℕ) (bs of_part : List ℕ) (ps : List Part) (p : Part) → SpellsParts kinds o bs ps
      → IsBundlePart kinds (o + length bs) p of_part → SpellsParts kinds o (bs ++ of_part) (ps ++ p ∷ [])
  one_more o bs of_part [] p h part =
      let index : o + length bs ≡ o = rw h (omega arith) in
      let here : IsBundlePart kinds o p of_part = rw index at part in
      (of_part, [], rw h (sym (append-nil of_part)), here, refl)
  one_more o bs of_part (q ∷ ps) p h part =
      let index : o + length bs ≡ (o + length h.0) + length h.1 = rw (h.2, length-append h.0 h.1) (omega arith) in (
        h.0,
        h.1 ++ of_part,
        rw h.2 (append_assoc h.0 h.1 of_part),
        h.3,
        one_more (o + length h.0) h.1 of_part ps p h.4
            (rw (← index) part),
      )

  -- what stands behind whole parts is spelled too, where all is
  pub rest_is_spelled : (o : ℕ) (bs behind : List ℕ) (ps qs : List Part) → SpellsParts kinds o bs ps
      → SpellsParts kinds o (bs ++ behind) qs → (rs : List Part) × SpellsParts kinds (o + length bs) behind rs
  rest_is_spelled o bs behind [] qs h g =
      let all : SpellsParts kinds o behind qs = rw h at g in
      let index : o + length bs ≡ o = rw h (omega arith) in
      (qs, rw index all)
  rest_is_spelled o bs behind (p ∷ ps) [] h g =
      absurd (nothing_more o p h.0 (h.1 ++ behind) h.3
      (sym (append_assoc h.0 h.1 behind) ∙ ap (λ (xs : List ℕ). xs ++ behind) (sym h.2) ∙ g))
  rest_is_spelled o bs behind (p ∷ ps) (q ∷ qs) h g =
      let whole : h.0 ++ (h.1 ++ behind) ≡ g.0 ++ g.1 =
      sym (append_assoc h.0 h.1 behind) ∙ ap (λ (xs : List ℕ). xs ++ behind) (sym h.2) ∙ g.2 in
      let same = same_part o p q h.0 g.0 (h.1 ++ behind) g.1 h.3 g.3 whole in
      let others : SpellsParts kinds (o + length h.0) (h.1 ++ behind) qs = rw (same.bytes, same.behind) g.4 in
      let spelled = rest_is_spelled (o + length h.0) h.1 behind ps qs h.4 others in
      let index : o + length bs ≡ (o + length h.0) + length h.1 = rw (h.2, length-append h.0 h.1) (omega arith) in
      (spelled.0, rw index spelled.1)

  -- ---- faults

  -- no whole part stands in front where a fault is
  whole_in_front : (o at : ℕ) (bs of_part behind : List ℕ) (p : Part) (fault : BundleFault) → bs ≡ of_part ++ behind
      → IsBundlePart kinds o p of_part → IsPartFault kinds bs at fault → ⊥
  whole_in_front o at bs of_part behind p (Header offset) whole part here =
      let front = part.front in
      here.2 p.kind p.length part.is_kind (record {
        header = front.header;
        content = front.content ++ behind;
        is_header = front.is_header;
        whole = whole ∙ ap (λ (xs : List ℕ). xs ++ behind) front.whole ∙ append_assoc front.header front.content behind;
      })
  whole_in_front o at bs of_part behind p (Short offset) whole part here =
      let front = part.front in
      let short = here.4 in
      let is : bs ≡ front.header ++ (front.content ++ behind) =
      whole ∙ ap (λ (xs : List ℕ). xs ++ behind) front.whole ∙ append_assoc front.header front.content behind in
      let same = same_header short.header front.header here.1 p.kind here.2 p.length short.content (front.content ++ behind)
      short.is_header front.is_header (sym short.whole ∙ is) in
      let long : length short.content ≡ length front.content + length behind =
      ap (λ (xs : List ℕ). length xs) same.behind ∙ length-append front.content behind in
      absurd (omega (arith, long, same.count, part.size, here.5))
  whole_in_front o at bs of_part behind p Memory whole part here = here

  pub broken_no_parts : (o at : ℕ) (bs : List ℕ) (ps : List Part) (fault : BundleFault)
      → IsPartFault kinds bs at fault → SpellsParts kinds o bs ps → ⊥
  broken_no_parts o at bs (p ∷ ps) fault here h = whole_in_front o at bs h.0 h.1 p fault h.2 h.3 here
  broken_no_parts o at bs [] (Header offset) here h = here.1 h
  broken_no_parts o at bs [] (Short offset) here h =
      let short = here.4 in
      let some = header_some short.header here.1 here.2 short.is_header in
      let none : length bs ≡ 0 = ap (λ (xs : List ℕ). length xs) h in
      let long : length bs ≡ length short.header + length short.content =
      ap (λ (xs : List ℕ). length xs) short.whole ∙ length-append short.header short.content in
      absurd (omega (arith, some, none, long))
  broken_no_parts o at bs [] Memory here h = here

  breaks_no_parts : (bs : List ℕ) (o : ℕ) (before : List Part) (fault : BundleFault) (ps : List Part)
      → SpellsParts kinds 0 (take o bs) before → IsPartFault kinds (drop o bs) o fault → SpellsParts kinds 0 bs ps
      → ⊥
  breaks_no_parts bs o before fault ps spelled here h =
      let whole : SpellsParts kinds 0 (take o bs ++ drop o bs) ps = rw take-append-drop h in
      let later = rest_is_spelled 0 (take o bs) (drop o bs) before ps spelled whole in
      broken_no_parts (0 + length (take o bs)) o (drop o bs) later.0 fault here later.1

  pub fault_no_parts : (bs : List ℕ) (fault : BundleFault) → AreNoParts kinds bs fault → fault ≢ Memory
      → (ps : List Part) → SpellsParts kinds 0 bs ps → ⊥
  fault_no_parts bs Memory h1 h2 ps h3 = h2 refl
  fault_no_parts bs fault h1 h2 ps h3 = breaks_no_parts bs h1.0 h1.1 fault ps h1.2 h1.3 h3

  -- ---- the part that a header in front begins

  pub part_in_front : (o : ℕ) (bs : List ℕ) (p : Part) (n : ℕ) → Contains kinds p.kind → n ≤ length bs
      → p.length ≤ length bs - n → IsHeader (take n bs) p.kind p.length → p.start ≡ o + n → IsBundlePart kinds o p (take (n + p.length) bs)
  part_in_front o bs p n is_kind inside fits header start =
      let long : length (take n bs) ≡ n = length-take-le n bs inside in
      let size : length (take p.length (drop n bs)) ≡ p.length =
      length-take-le p.length (drop n bs) (rw length-drop fits) in
      record {
        is_kind = is_kind;
        front = record {
          header = take n bs;
          content = take p.length (drop n bs);
          is_header = header;
          whole = take-add n p.length bs;
        };
        start = rw long start;
        size = sym size;
      }

  -- whole parts, and what stands behind them, are why bytes are refused
  pub breaks : (bs : List ℕ) (o : ℕ) (ps : List Part) (fault : BundleFault) → SpellsParts kinds 0 (take o bs) ps
      → IsPartFault kinds (drop o bs) o fault → AreNoParts kinds bs fault
  breaks bs o ps Memory h1 h2 = tt
  breaks bs o ps fault h1 h2 = (o, ps, h1, h2)

  -- the next part
  pub next_part : (bs : List ℕ) (o n : ℕ) (ps : List Part) (p : Part) → o ≤ length bs → o ≤ n
      → SpellsParts kinds 0 (take o bs) ps
      → IsBundlePart kinds o p (take (n - o) (drop o bs)) → SpellsParts kinds 0 (take n bs) (ps ++ p ∷ [])
  next_part bs o n ps p inside further before part =
      let long : length (take o bs) ≡ o = length-take-le o bs inside in
      let index : 0 + length (take o bs) ≡ o = omega (arith, long) in
      let sum : n ≡ o + (n - o) = omega arith in
      let whole : take n bs ≡ take o bs ++ take (n - o) (drop o bs) =
      ap (λ (m : ℕ). take m bs) sum ∙ take-add o (n - o) bs in
      rw whole (one_more 0 (take o bs) (take (n - o) (drop o bs)) ps p before (rw index part))

  -- each part lies within the bytes
  pub part_inside : (o : ℕ) (bs : List ℕ) (ps : List Part) (i : ℕ) (d : Part) → SpellsParts kinds o bs ps
      → i < length ps → (get_or ps i d).start + (get_or ps i d).length ≤ o + length bs
  part_inside o bs [] i d h lt = absurd (omega arith)
  part_inside o bs (p ∷ ps) zero d h lt =
      let part = h.3 in
      let long : length bs ≡ length h.0 + length h.1 = rw h.2 (length-append h.0 h.1) in
      let long_part : length h.0 ≡ length part.front.header + length part.front.content =
      rw part.front.whole (length-append part.front.header part.front.content) in
      omega (arith, long, long_part, part.start, part.size)
  part_inside o bs (p ∷ ps) (suc i) d h lt =
      let long : length bs ≡ length h.0 + length h.1 = rw h.2 (length-append h.0 h.1) in
      let inside : i < length ps = omega arith in
      let behind = part_inside (o + length h.0) h.1 ps i d h.4 inside in
      omega (arith, long, behind)

  -- ---- bytes that begin with no whole part

  none_before : (bs : List ℕ) (o : ℕ) (ps : List Part) (fault : BundleFault) → IsPartFault kinds bs 0 fault
      → SpellsParts kinds 0 (take o bs) ps → ps ≡ []
  none_before bs o [] fault here spelled = refl
  none_before bs o (p ∷ ps) fault here spelled =
      absurd (whole_in_front 0 0 bs spelled.0 (spelled.1 ++ drop o bs) p fault
      (sym (take-append-drop o bs) ∙ ap (λ (xs : List ℕ). xs ++ drop o bs) spelled.2
      ∙ append_assoc spelled.0 spelled.1 (drop o bs)) spelled.3 here)

  -- no part is found behind a bad one
  pub no_part_behind : (bs : List ℕ) (n : ℕ) (ps : List Part) (p : Part) (fault : BundleFault)
      → IsPartFault kinds bs 0 fault → SpellsParts kinds 0 (take n bs) (ps ++ p ∷ []) → ⊥
  no_part_behind bs n ps p fault here spelled =
      let none : length (ps ++ p ∷ []) ≡ 0 =
      ap (λ (qs : List Part). length qs) (none_before bs n (ps ++ p ∷ []) fault here spelled) in
      absurd (omega (arith, none, length-append ps (p ∷ [])))

  one_fault : (bs : List ℕ) (fault second : BundleFault) → IsPartFault kinds bs 0 fault → IsPartFault kinds bs 0 second
      → fault ≡ second
  one_fault bs (Header offset) (Header at) h g = cc
  one_fault bs (Header offset) (Short at) h g = absurd (h.2 g.1 g.2 g.3 g.4)
  one_fault bs (Short offset) (Header at) h g = absurd (g.2 h.1 h.2 h.3 h.4)
  one_fault bs (Short offset) (Short at) h g = cc
  one_fault bs Memory second h g = absurd h
  one_fault bs fault Memory h g = absurd g

  -- a fault behind whole parts is that of the front, where there is one
  pub first_fault : (bs : List ℕ) (o : ℕ) (ps : List Part) (fault first : BundleFault) → o < length bs
      → SpellsParts kinds 0 (take o bs) ps → IsPartFault kinds (drop o bs) o fault → IsPartFault kinds bs 0 first
      → fault ≡ first
  first_fault bs o ps fault first h1 h2 h3 h4 = grind (arith, length-take-le, none_before, one_fault)
