-- Masks of scratch words, and the paths that they stand for.
use Rattle.scf_machine.proofs.Common.{common_steps, ◌≡◌, ℕ, ◌+◌, ◌*◌, ◌%◌, ◌^◌, ◌<◌, ◌≤◌, inl, inr, min, Bool, false, cond, nat_eq, List, [], ◌∷◌, Some, refl, sym, ◌∙◌, arith, length, get_or, set, replicate, bit_and, bit_or, length-set, bit_at, w16, list_any, AllByRecursion, nat_tests, bit_at_and, bit_at_ones, bit_at-zero, bit_at_set_same, bit_at_set_other, cases_eq, or_parts, or_from, slice_get_within, bpf_memwords, Insn, Register, Operation, LoadScratch, Joins, Unstored, MasksAt, IsValidList, GoesTo, Edge, Stands, stores_word, stores_at, IsPath, IsUnsetAt, KeepsScratchRule}
use Rattle.scf_machine.proofs.Runs.{edge_forward, fine_of}

edge_of : (insns : List Insn) (p t : ℕ) (i : Insn) (operation : Operation)
    → Stands insns p i operation → GoesTo (Some operation) i p t → Edge insns p t
edge_of insns p t i operation stands goes = grind arith

joined_bit : (masks : List ℕ) (target mask p n : ℕ) → target < length masks
    → bit_at (get_or (set masks target (bit_and (get_or masks target 0) mask)) p 0) n
    ≡ cond (nat_eq p target) (min (bit_at (get_or masks p 0) n) (bit_at mask n)) (bit_at (get_or masks p 0) n)
joined_bit masks target mask p n inside = grind (arith, nat_tests, common_steps, bit_at_and)

-- a mask that loses bits at one index
pub joins_set : (masks : List ℕ) (target mask : ℕ) → target < length masks
    → Joins masks (set masks target (bit_and (get_or masks target 0) mask)) (λ p. p ≡ target) mask
joins_set masks target mask inside = grind (arith, nat_tests, joined_bit, length-set {A = ℕ})

-- the mask with one more word
pub bit_set : (mask k n : ℕ) → k < bpf_memwords → n < bpf_memwords
    → bit_at (bit_or mask (1 * 2 ^ k % 2 ^ 16)) n ≡ cond (nat_eq k n) 1 (bit_at mask n)
bit_set mask k n inside inside_n =
    let fits : k < 16 = omega arith in
    grind (arith, nat_tests, bit_at_set_same w16 mask k fits, bit_at_set_other w16 mask k fits n)

-- ---- the invariant
below_more : (bound more : ℕ) (indices : List ℕ)
    → bound ≤ more → AllByRecursion (λ q. q < bound) indices → AllByRecursion (λ q. q < more) indices
below_more bound more [] le h = tt
below_more bound more (p ∷ indices) le h = let here = h.0 in (omega arith, below_more bound more indices le h.1)

-- each index before an index on a path is below it
pub path_below : (insns : List Insn) (p : ℕ) (earlier : List ℕ)
    → IsPath insns p earlier → AllByRecursion (λ q. q < p) earlier
path_below insns p [] path = tt
path_below insns p (q ∷ earlier) path =
    let forward = edge_forward insns q p path.0 in
    (forward, below_more q p earlier (omega arith) (path_below insns q earlier path.1))

pub masks_start : (insns : List Insn) (masks : List ℕ) → length masks ≡ length insns
    → get_or masks 0 0 ≡ 0 → ((p : ℕ) → 0 < p → p < length insns → get_or masks p 0 ≡ 65535) → MasksAt insns masks 0
masks_start insns masks long first others = record {
  long = long;
  clear = λ p n inside inside_n e. record {
    earlier = [];
    path = let fits : n < 16 = omega arith in grind (arith, bit_at_ones 16 n fits, others p);
    below = tt;
    unset = refl;
  };
  found = λ p n inside inside_n unstored. at_path p n unstored.earlier unstored.path unstored.below;
}
  where
    at_path : (p n : ℕ) (earlier : List ℕ)
        → IsPath insns p earlier → AllByRecursion (λ q. q < 0) earlier → bit_at (get_or masks p 0) n ≡ 0
    at_path p n [] path below = grind (arith, bit_at-zero n)
    at_path p n (q ∷ earlier) path below = absurd (omega (arith, below.0))

weaker : (insns : List Insn) (bound p n : ℕ) → Unstored insns bound p n → Unstored insns (bound + 1) p n
weaker insns bound p n h = grind (arith, below_more)

cleared_parts : (b : Bool) (m : ℕ) → cond b 1 m ≡ 0 → (b ≡ false) × (m ≡ 0)
cleared_parts b m h = grind arith

-- what is stored at an index, by its instruction
pub stores_is : (insns : List Insn) (p n : ℕ) (i : Insn) (operation : Operation)
    → Stands insns p i operation → stores_at insns n p ≡ stores_word operation i.k n
unfolding stores_at
stores_is insns p n i operation stands = grind arith

-- the instruction of an index is one, with its operation
stands_once : (insns : List Insn) (p : ℕ) (i j : Insn) (a b : Operation)
    → Stands insns p i a → Stands insns p j b → (i ≡ j) × (a ≡ b)
stands_once insns p i j a b first second = grind arith

goes_of : (insns : List Insn) (p t : ℕ) (i : Insn) (operation : Operation)
    → Edge insns p t → Stands insns p i operation → GoesTo (Some operation) i p t
goes_of insns p t i operation edge stands = grind arith

module _ (insns : List Insn) (masks new : List ℕ)
    (at mask : ℕ) (i : Insn) (operation : Operation) (old : MasksAt insns masks at) (inside : at < length insns)
    (stands : Stands insns at i operation) (joins : Joins masks new (GoesTo (Some operation) i at) mask) (bits : (n : ℕ)
    → n < bpf_memwords → bit_at mask n ≡ cond (stores_word operation i.k n) 1 (bit_at (get_or masks at 0) n)) where
  through : (p n : ℕ) → n < bpf_memwords
      → GoesTo (Some operation) i at p → bit_at mask n ≡ 0 → Unstored insns (at + 1) p n
  through p n inside_n goes e =
      let parts = cleared_parts _ _ (sym (bits n inside_n) ∙ e) in
      let here = old.clear at n inside inside_n parts.1 in
      record {
        earlier = at ∷ here.earlier;
        path = (edge_of insns at p i operation stands goes, here.path);
        below = (omega arith, below_more at (at + 1) here.earlier (omega arith) here.below);
        unset = or_from _ _ (stores_is insns at n i operation stands ∙ parts.0) here.unset;
      }

  lost_here : (p n : ℕ) (earlier : List ℕ) → p < length insns → n < bpf_memwords → Edge insns at p
      → IsPath insns at earlier → stores_at insns n at ≡ false → list_any (stores_at insns n) earlier ≡ false
      → bit_at (get_or new p 0) n ≡ 0
  lost_here p n earlier inside_p inside_n edge path unset before =
      grind (arith, common_steps, path_below, goes_of, stores_is)

  lost : (p n : ℕ) (earlier : List ℕ)
      → p < length insns → n < bpf_memwords → IsPath insns p earlier → AllByRecursion (λ q. q < at + 1) earlier
      → list_any (stores_at insns n) earlier ≡ false → bit_at (get_or new p 0) n ≡ 0
  lost p n [] inside_p inside_n path below unset =
      let long = old.long in
      joins.kept p n (omega arith)
      (old.found p n inside_p inside_n (record { earlier = []; path = path; below = tt; unset = refl }))
  lost p n (q ∷ earlier) inside_p inside_n path below unset =
      let long = old.long in
      let parts = or_parts (stores_at insns n q) (list_any (stores_at insns n) earlier) unset in
      let first = below.0 in
      elim (cases_eq q at) [
        | inl e ↦ lost_here p n earlier inside_p inside_n (rw e at path.0) (rw e at path.1) (rw e at parts.0) parts.1
        | inr ne ↦
            joins.kept p n (omega arith) (old.found p n inside_p inside_n (record {
              earlier = q ∷ earlier;
              path = path;
              below = (omega arith, below_more q at earlier (omega arith) (path_below insns q earlier path.1));
              unset = unset;
            }))
      ]

  pub masks_next : MasksAt insns new (at + 1)
  masks_next = grind (arith, lost, through, weaker)

-- no path comes to a load without its word where the word's bit is set
pub none_here : (insns : List Insn) (masks : List ℕ) (at : ℕ) (i : Insn) (operation : Operation)
    → IsValidList insns → MasksAt insns masks at → at < length insns
    → Stands insns at i operation → ((r : Register) → operation ≡ LoadScratch r → bit_at (get_or masks at 0) i.k ≡ 1)
    → (n : ℕ) → IsUnsetAt insns at n → ⊥
none_here insns masks at i operation valid old inside stands set_bit n u =
    let v : Unstored insns at at n =
    record { earlier = u.earlier; path = u.path; below = path_below insns at u.earlier u.path; unset = u.unset } in
    grind (arith, stands_once, fine_of, valid.each at inside, old.found at n inside, set_bit)

-- the indices that were passed load no word that a path may leave unstored
abbrev pub NoneBelow : List Insn → ℕ → Type 0
NoneBelow insns at = (p n : ℕ) → p < at → IsUnsetAt insns p n → ⊥

pub none_more : (insns : List Insn) (at : ℕ)
    → NoneBelow insns at → ((n : ℕ) → IsUnsetAt insns at n → ⊥) → NoneBelow insns (at + 1)
none_more insns at before here p n below u = grind (arith, cases_eq p at, here n, before p n)

pub keeps_rule : (insns : List Insn) → NoneBelow insns (length insns) → KeepsScratchRule insns
keeps_rule insns none pc n u = none pc n (slice_get_within insns pc u.insn u.loads.here) u

-- at first each mask is full, and that of index 0 is empty
pub masks_made : (insns : List Insn) (masks : List ℕ)
    → 0 < length insns → masks ≡ set (replicate (length insns) 65535) 0 0 → MasksAt insns masks 0
masks_made insns masks some made = masks_start insns masks
    (grind (arith, common_steps)) (grind (arith, common_steps)) (λ p above inside. grind (arith, common_steps))
