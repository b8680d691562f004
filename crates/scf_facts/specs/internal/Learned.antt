-- Lists of words that agree with what was learned.
use Rattle.std.specs.Prelude.{◌≡◌, ℕ, List, All}
use Rattle.scf_insn.specs.Words.{IsWords}
use Rattle.scf_facts.specs.declared.learned.Learned.{Learned}
use Rattle.scf_facts.specs.Atoms.{atom_answer}

-- the atom has the learned answer
abbrev pub Holds : Learned → List ℕ → Type 0
Holds known words = atom_answer known.atom words ≡ known.holds

-- each learned atom has its answer
abbrev pub AllHold : List Learned → List ℕ → Type 0
AllHold learned words = All (λ known. Holds known words) learned

-- the lists of words that agree with what was learned
pub record AllowsByLearned (learned : List Learned) (words : List ℕ) : Type 0 where
  pub sixteen : IsWords words
  pub all : AllHold learned words
