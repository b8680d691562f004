-- The effort of a comparison: how many steps its whole tree takes.
use Rattle.std.specs.Prelude.{◌+◌, ◌*◌, ◌-◌, ◌^◌, ℕ, List, [], ◌∷◌, Option, None, Some, min, sum_by}
use Rattle.scf_insn.specs.declared.insn.Insn.{Insn}
use Rattle.scf_profile.specs.declared.condition.Condition.{Condition}
use Rattle.scf_profile.specs.declared.rule.Rule.{Rule}
use Rattle.scf_profile.specs.Profile.{Profile}
use Rattle.scf_profile.specs.RulesByNumber.{numbers_of, rules_of}
use Rattle.scf_compare.specs.Paths.{tree_size}

-- conditions, where what is asked once one of them fails has a size
abbrev pub conditions_size : List Condition → ℕ → ℕ
conditions_size [] fails = 1
conditions_size (c ∷ rest) fails = 3 + 2 * conditions_size rest fails + 2 * fails

-- the rules of one number, in their order
abbrev pub rules_size : List Rule → ℕ
rules_size [] = 1
rules_size (r ∷ rest) = conditions_size r.conditions (rules_size rest)

-- the question whether the stub answers a syscall number, and its answer
abbrev pub stub_size : Option ℕ → ℕ
stub_size None = 0
stub_size (Some first) = 2

-- the spread of a profile: 8, 2 if it has a stub, and for each distinct number 1 and the size of its rules
abbrev pub spread : Profile → ℕ
spread p =
    8 + stub_size p.stub + sum_by (λ number. 1 + rules_size (rules_of number p.rules)) (numbers_of p.rules)

-- the spread of profiles, where what is asked behind the last one has a size: three questions of each may tell that a
-- call is of another architecture, and then the later ones are asked
abbrev pub spread_in_turn : ℕ → List Profile → ℕ
spread_in_turn behind [] = behind
spread_in_turn behind (p ∷ later) = spread p + 3 * spread_in_turn behind later

-- the answer to a call of none of their architectures, but of one profile alone, which has it among its own
abbrev pub answer_of_none : List Profile → ℕ
answer_of_none (p ∷ []) = 0
answer_of_none profiles = 1

abbrev pub spread_of_all : List Profile → ℕ
spread_of_all profiles = spread_in_turn (answer_of_none profiles) profiles

-- the effort: the size of the filter's tree of paths from its first index on, times the spread
abbrev pub effort_of : List Insn → Profile → ℕ
effort_of insns p = tree_size insns 0 * spread p

-- the product of the sizes of the trees of paths of filters, 1 for none
abbrev pub stack_paths : List (List Insn) → ℕ
stack_paths [] = 1
stack_paths (filter ∷ filters) = tree_size filter 0 * stack_paths filters

-- the effort of a stack: that product times the spread
abbrev pub effort_of_stack : List (List Insn) → Profile → ℕ
effort_of_stack filters p = stack_paths filters * spread p

-- the number, or 2^64-1 where it is larger
abbrev pub saturated : ℕ → ℕ
saturated n = min n (2 ^ 64 - 1)
