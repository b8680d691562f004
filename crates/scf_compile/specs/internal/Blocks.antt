-- The instructions that test one condition. If it holds, the instruction behind them is next; if it fails, `out` more
-- are skipped.
use Rattle.std.specs.Prelude.{ℕ, Bool, ◌+◌, ◌*◌, ◌==◌, List, [], ◌∷◌, ◌++◌, length, if◌then◌else◌}
use Rattle.scf_insn.specs.Architectures.{row_of}
use Rattle.scf_insn.specs.declared.architecture.Architecture.{Architecture}
use Rattle.scf_insn.specs.declared.architecture.ArgumentBits.{ArgumentBits}
use Rattle.scf_insn.specs.declared.architecture.ArgumentBits.TheVariants.{Bits32, Bits64}
use Rattle.scf_insn.specs.declared.insn.Insn.{Insn}
use Rattle.scf_insn.specs.declared.operation.Test.{Test}
use Rattle.scf_insn.specs.declared.operation.Test.TheVariants.{Equal as SameWord, Greater as Above}
use Rattle.scf_insn.specs.declared.operation.Test.TheVariants.{GreaterOrEqual as AtLeast, CommonBit}
use Rattle.scf_insn.specs.Masks.{mask_kind}
use Rattle.scf_insn.specs.Words.{low, high}
use Rattle.scf_profile.specs.declared.condition.Condition.{Condition}
use Rattle.scf_profile.specs.declared.number_test.NumberTest.{NumberTest}
use Rattle.scf_profile.specs.declared.number_test.NumberTest.TheVariants.{Masked, Greater, GreaterOrEqual}
use Rattle.scf_profile.specs.NumberTests.{test_of}
use Rattle.scf_insn.specs.declared.mask.MaskKind.{MaskKind}
use Rattle.scf_insn.specs.declared.mask.MaskKind.TheVariants.{Empty, OneBit, Full, Mixed}
use Rattle.scf_compile.specs.internal.Insns.{load_word, and_with, jump_if}
use Rattle.scf_compile.specs.internal.Placing.{skip_code}

-- tests a word against a constant, and skips `hit` or `miss` instructions behind the test
abbrev pub word_code : Test → ℕ → ℕ → ℕ → ℕ → List Insn
word_code test word constant hit miss = load_word word ∷ jump_if test constant hit miss ∷ []

-- the number in two words, the low one first, is above a value, or at least it: where the high words are equal the test
-- of the low ones decides, and else their order
unfoldable pub order_code : Test → ℕ → ℕ → ℕ → ℕ → List Insn
order_code test word value hit miss =
    word_code SameWord (word + 1) (high value) 1 0
    ++ (jump_if Above (high value) (2 + hit) (2 + miss) ∷ word_code test word (low value) hit miss)

-- a word has a wanted bit, or hasn't it where none is wanted
abbrev pub bit_code : ℕ → ℕ → ℕ → ℕ → ℕ → List Insn
bit_code word mask wanted hit miss =
    (if wanted == 0 then word_code CommonBit word mask miss hit else word_code CommonBit word mask hit miss)

-- a word has the wanted bits under a mask, which has them all: no bit needs no test, unless there is something to pass
abbrev pub half_code_of : MaskKind → ℕ → ℕ → ℕ → ℕ → ℕ → List Insn
half_code_of Empty word mask wanted hit miss = (if hit == 0 then [] else bit_code word mask wanted hit miss)
half_code_of OneBit word mask wanted hit miss = bit_code word mask wanted hit miss
half_code_of Full word mask wanted hit miss = word_code SameWord word wanted hit miss
half_code_of Mixed word mask wanted hit miss =
    load_word word ∷ and_with mask ∷ jump_if SameWord wanted hit miss ∷ []

unfoldable pub half_code : ℕ → ℕ → ℕ → ℕ → ℕ → List Insn
half_code word mask wanted hit miss = half_code_of (mask_kind mask) word mask wanted hit miss

-- the number in two words has the wanted bits under a mask
unfoldable pub masked_code : ℕ → ℕ → ℕ → ℕ → ℕ → List Insn
masked_code word mask wanted hit miss =
    let low_code = half_code word (low mask) (low wanted) hit miss in
    half_code (word + 1) (high mask) (high wanted) 0 (length low_code + miss) ++ low_code

-- a test of the number in two words
abbrev pub wide_code : NumberTest → ℕ → ℕ → ℕ → List Insn
wide_code (Masked mask value) word hit miss = masked_code word mask value hit miss
wide_code (Greater value) word hit miss = order_code Above word value hit miss
wide_code (GreaterOrEqual value) word hit miss = order_code AtLeast word value hit miss

-- a test of the number in one word, against a value that fits a word
abbrev pub narrow_code : NumberTest → ℕ → ℕ → ℕ → List Insn
narrow_code (Masked mask value) word hit miss = half_code word (low mask) (low value) hit miss
narrow_code (Greater value) word hit miss = word_code Above word (low value) hit miss
narrow_code (GreaterOrEqual value) word hit miss = word_code AtLeast word (low value) hit miss

-- the value that a test compares with
abbrev pub value_of : NumberTest → ℕ
value_of (Masked mask value) = value
value_of (Greater value) = value
value_of (GreaterOrEqual value) = value

-- a test of an argument of so many bits: one of 32 never reaches a value that needs more
abbrev pub test_code : ArgumentBits → NumberTest → ℕ → ℕ → ℕ → List Insn
test_code Bits64 test word hit miss = wide_code test word hit miss
test_code Bits32 test word hit miss =
    (if high (value_of test) == 0 then narrow_code test word hit miss else skip_code miss)

-- the low word of an argument
abbrev pub argument_word : ℕ → ℕ
argument_word index = 2 * index + 4

-- where the test isn't met and the condition holds, the exits are exchanged
abbrev pub exits : Bool → ℕ → ℕ × ℕ
exits expected out = (if expected then (0, out) else (out, 0))

-- a condition on an argument of the architecture
abbrev pub condition_code : Architecture → Condition → ℕ → List Insn
condition_code a c out =
    let test = test_of c in let goes = exits test.1 out in
    test_code (row_of a).bits test.0 (argument_word c.index) goes.0 goes.1
