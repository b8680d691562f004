-- From one region to the next.
use Rattle.std.specs.Prelude.{◌≡◌, ◌⊎◌, ◌++◌, ◌∷◌, ◌↔◌, ◌≤◌, ◌+◌, length, [], ℕ, List, Option, None, All, AllPairs, Bool, IfSome, IsSome, IsTrue}
use Rattle.scf_insn.specs.Words.{IsRecord, words_of}
use Rattle.scf_facts.specs.Masks.{AreFew}
use Rattle.scf_facts.specs.declared.word_facts.WordFacts.{Ghosts as Store}
use Rattle.scf_facts.specs.WordSets.{AllowsWords}
use Rattle.scf_compare.specs.declared.comparison.PairLeaf.{PairLeaf}
use Rattle.scf_compare.specs.declared.frontier.Frontier.{Frontier}
use Rattle.scf_compare.specs.declared.frontier.Stage.{Stage}
use Rattle.scf_compare.specs.declared.frontier.Stage.TheVariants.{At, AllSeen, Found}
use Rattle.scf_compare.specs.declared.region.Region.{Region}
use Rattle.scf_compare.specs.Findings.{Compared}
use Rattle.scf_compare.specs.Regions.{AreDisjoint, IsCovered, IsDecidedRegion, IsRegion}
use Rattle.scf_compare.specs.internal.Frontier.{IsExact, IsWhole, IsWhollyAhead}
use Rattle.scf_compare.specs.internal.Stages.{FindsNothing, IsStageAfter}
use Rattle.scf_compare.specs.internal.Trees.{Tree}

-- the region of a leaf, given the words that come to it and whether all that are allowed do
pub record IsRegionOf (allowed : List ℕ → Type 0) (leaf : PairLeaf) (is_whole : Bool) (region : Region) : Type 0 where
  pub words : (words : List ℕ) → AllowsWords region.words words ↔ allowed words
  pub same_leaf : region.leaf ≡ leaf
  pub shown : IfSome region.example (λ call. IsRecord call × allowed (words_of call))
  pub exact : IsTrue region.is_exact → IsTrue is_whole × IsSome region.example

-- the region of a leaf was added to others, unless no words are allowed there
abbrev pub IsAdded : (List ℕ → Type 0) → PairLeaf → Bool → List Region → List Region → Type 0
IsAdded allowed leaf is_whole old new =
    ((new ≡ old) × ((words : List ℕ) → allowed words → ⊥))
    ⊎ ((region : Region) × IsRegionOf allowed leaf is_whole region × (new ≡ old ++ region ∷ []))

-- Regions so far: each is one, exact ones don't overlap, and what is in these isn't ahead on a decided path.
pub record AreRegionsSoFar {F K N : Type 0} (store : Store F) (compared : Compared) (tree : K → Tree N)
    (frontier : Frontier F K N) (first_open : Option ℕ) (regions : List Region) : Type 0 where
  pub each : All (IsRegion compared.left compared.right compared.in_scope) regions
  pub disjoint : AllPairs AreDisjoint regions
  pub left : All (λ region. IsTrue region.is_exact → (words : List ℕ) → AllowsWords region.words words
      → IsWhollyAhead store tree frontier first_open words → ⊥) regions

-- the regions of a stage
abbrev pub AreRegionsAt : {F K N : Type 0} → Store F → Compared → (K → Tree N) → Frontier F K N → Option ℕ
    → List Region → Tree N → Stage N → Type 0
AreRegionsAt store compared tree frontier first_open regions there (At next) =
    AreRegionsSoFar store compared tree frontier first_open regions
    × IsWhole store tree frontier first_open (there.reaches next)
AreRegionsAt store compared tree frontier first_open regions there AllSeen =
    All (IsRegion compared.left compared.right compared.in_scope) regions × AllPairs AreDisjoint regions
AreRegionsAt store compared tree frontier first_open regions there (Found finding) = ⊥

-- A step that adds the region of a leaf: what was covered still is. What complete facts decide has decided regions.
pub record IsRegionStep {F K N : Type 0} (store : Store F) (compared : Compared) (tree : K → Tree N)
    (old new : Frontier F K N) (here : Tree N) (from : N) (there : Tree N) (first_open now_open : Option ℕ)
    (old_regions new_regions : List Region) (stage : Stage N) : Type 0 where
  pub explores : IsStageAfter store compared tree old new here from there
      (IsCovered compared.left compared.right new_regions) stage
  pub kept : (words : List ℕ) → IsCovered compared.left compared.right old_regions words
      → IsCovered compared.left compared.right new_regions words
  pub regions : AreRegionsAt store compared tree new now_open new_regions there stage
  pub decided : (masks : ℕ) → AreFew masks
      → IsExact store tree masks old (here.is_plain masks from) (here.reaches from) → first_open ≡ None
      → (now_open ≡ None) × (All IsDecidedRegion old_regions → All IsDecidedRegion new_regions)
  pub few : length new_regions ≤ length old_regions + 1
  pub nothing : FindsNothing stage
