-- Bytes are those of one list of instructions.
use Rattle.scf_insn.proofs.Common.{◌≡◌, ℕ, zero, suc, ◌*◌, ◌<◌, ◌++◌, List, [], ◌∷◌, take, drop, length, get_or, ap, sym, refl, ◌∙◌, arith, AllByRecursion, w16, w32, to_le_bytes, from_le_bytes, from_le_bytes-to_le_bytes_2, from_le_bytes-to_le_bytes_4, le_bytes_2, le_bytes_4, Insn, IsInsn, insn_bytes, program_bytes}

-- the instruction in front of bytes
abbrev insn_in : List ℕ → Insn
insn_in bs =
    record {
      code = from_le_bytes w16 (take 2 bs);
      jt = get_or bs 2 0;
      jf = get_or bs 3 0;
      k =
          from_le_bytes w32 (take 4 (drop 4 bs));
    }

reads_back : (i : Insn) (behind : List ℕ) → IsInsn i → insn_in (insn_bytes i ++ behind) ≡ i
reads_back i behind h = rw (from_le_bytes-to_le_bytes_2 i.code h.code, from_le_bytes-to_le_bytes_4 i.k h.k) refl

-- lists of instructions with the same bytes are one
pub one_list : (is js : List Insn) → AllByRecursion IsInsn is → AllByRecursion IsInsn js
    → program_bytes is ≡ program_bytes js → is ≡ js
one_list [] [] a b e = refl
one_list [] (j ∷ js) a b e = absurd cc
one_list (i ∷ is) [] a b e = absurd cc
one_list (i ∷ is) (j ∷ js) a b e =
    let first : i ≡ j = sym (reads_back i (program_bytes is) a.0) ∙ ap insn_in e
    ∙ reads_back j (program_bytes js) b.0 in
    let others : is ≡ js = one_list is js a.1 b.1 (ap (λ bs. drop 8 bs) e) in
    rw (first, others) refl

pub length-program_bytes : (is : List Insn) → length (program_bytes is) ≡ 8 * length is
length-program_bytes [] = refl
length-program_bytes (i ∷ is) = let behind = length-program_bytes is in omega arith

bytes_two : (b c : ℕ) → b < 256 → c < 256 → (i : ℕ) → get_or (b ∷ c ∷ []) i 0 < 256
bytes_two b c h1 h2 i = grind arith

bytes_four : (b c d e : ℕ) → b < 256 → c < 256 → d < 256 → e < 256 → (i : ℕ) → get_or (b ∷ c ∷ d ∷ e ∷ []) i 0 < 256
bytes_four b c d e h1 h2 h3 h4 i = grind arith

-- bytes whose number is a multiple of 8 are those of some list of instructions within their widths
pub some_list : (n : ℕ) (bs : List ℕ) → length bs ≡ 8 * n → AllByRecursion (λ b. b < 256) bs
    → (is : List Insn) × AllByRecursion IsInsn is × (program_bytes is ≡ bs)
some_list zero [] e a = ([], tt, refl)
some_list zero (b ∷ bs) e a = absurd (omega arith)
some_list (suc n) (b0 ∷ b1 ∷ b2 ∷ b3 ∷ b4 ∷ b5 ∷ b6 ∷ b7 ∷ bs) e (p0, (p1, (p2, (p3, (p4, (p5, (p6, (p7, a)))))))) =
    let behind = some_list n bs (omega arith) a in
    let code = from_le_bytes w16 (b0 ∷ b1 ∷ []) in
    let k = from_le_bytes w32 (b4 ∷ b5 ∷ b6 ∷ b7 ∷ []) in
    let low : to_le_bytes w16 code ≡ b0 ∷ b1 ∷ [] = le_bytes_2 (b0 ∷ b1 ∷ []) code refl (bytes_two b0 b1 p0 p1) refl in
    let high : to_le_bytes w32 k ≡ b4 ∷ b5 ∷ b6 ∷ b7 ∷ [] =
    le_bytes_4 (b4 ∷ b5 ∷ b6 ∷ b7 ∷ []) k refl (bytes_four b4 b5 b6 b7 p4 p5 p6 p7) refl in (
      record { code = code; jt = b2; jf = b3; k = k } ∷ behind.0,
      (record { code = omega arith; jt = p2; jf = p3; k = omega arith }, behind.1),
      ap (λ (xs : List ℕ). xs ++ (b2 ∷ b3 ∷ (to_le_bytes w32 k ++ program_bytes behind.0))) low
          ∙ ap (λ (ys : List ℕ). b0 ∷ b1 ∷ b2 ∷ b3 ∷ (ys ++ program_bytes behind.0)) high
          ∙ ap (λ (zs : List ℕ). b0 ∷ b1 ∷ b2 ∷ b3 ∷ b4 ∷ b5 ∷ b6 ∷ b7 ∷ zs) behind.2,
    )
some_list (suc n) bs e a = absurd (omega arith)
