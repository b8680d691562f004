-- Code that is put together from its last instruction to its first.
use Rattle.std.specs.Prelude.{◌≡◌, ◌==◌, ℕ, ◌+◌, ◌-◌, ◌<◌, ◌≤◌, ◌⊎◌, List, [], ◌∷◌, ◌++◌, drop, length, nat_le, if◌then◌else◌}
use Rattle.scf_insn.specs.declared.insn.Insn.{Insn}
use Rattle.scf_insn.specs.declared.operation.Test.{Test}
use Rattle.scf_compile.specs.declared.placing.Position.{Position}
use Rattle.scf_compile.specs.internal.Insns.{jump_if, jump_over}

-- the code from an index on
abbrev pub code_from : Position → List Insn → List Insn
code_from index code = drop (length code - index.0) code

-- a conditional jump that stands two instructions before the code reaches the index
pub record IsNear (index : Position) (code : List Insn) : Type 0 where
  pub stands : index.0 ≤ length code
  pub near : length code < index.0 + 255

-- The block, of no more than two instructions, stands first, before the code that stood.
pub record IsFirst (block before after : List Insn) (index : Position) : Type 0 where
  pub whole : after ≡ block ++ before
  pub first : index.0 ≡ length after
  pub few : length after ≤ 2 + length before

-- The block stands at an index of the code, which is as it was before or has the block more.
pub record IsPut (block before after : List Insn) (index : Position) : Type 0 where
  pub front : List Insn
  pub whole : after ≡ front ++ before
  pub put : (front ≡ []) ⊎ (front ≡ block)
  pub few : length after ≤ length block + length before
  pub behind : List Insn
  pub there : code_from index after ≡ block ++ behind
  pub near : IsNear index after

-- the block stands in the code behind some instructions
abbrev pub StandsBehind : ℕ → List Insn → List Insn → Type 0
StandsBehind passed block code = (behind : List Insn) × (drop passed code ≡ block ++ behind)

-- tests the accumulator, and passes `hit` instructions where the test holds and else `miss`: more than 255 by a jump of
-- their own
abbrev pub branch_code : Test → ℕ → ℕ → ℕ → List Insn
branch_code test constant hit miss =
    (if nat_le miss 255
    then jump_if test constant hit miss ∷ []
    else jump_if test constant (1 + hit) 0 ∷ jump_over miss ∷ [])

-- passes some instructions, if there are any to pass
abbrev pub skip_code : ℕ → List Insn
skip_code count = (if count == 0 then [] else jump_over count ∷ [])
