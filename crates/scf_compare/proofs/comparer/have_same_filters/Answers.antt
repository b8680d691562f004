use Rattle.std.proofs.Common.{rules}
use Rattle.std.proofs.lemmas.List.{take_more_same}
use Rattle.std.proofs.lemmas.List.Elements.{All-more}
use Rattle.scf_insn.specs.contracts.insn.InsnPartialEq.TheImpl.{eq-value}
use Rattle.scf_machine.specs.Rules.{IsFilter}
use Rattle.scf_compare.proofs.Common.{◌≡◌, ◌∙◌, ◌<◌, List, Insn, arith, get_or, length, slice_get-get_or, sym, true}
use lib.Pointwise.{pointwise, pointwise_decides}
use Rattle.scf_compare.proofs.comparer.have_same_filters.Goals as goal

same_insns : (xs ys : List Insn) → pointwise eq-value.it xs ys ≡ true → xs ≡ ys
same_insns xs ys = (pointwise_decides {E = eq-value.it} (λ x y. (λ e. search rules, λ e. search rules)) xs ys).0

all_insns : (xs ys : List Insn) → xs ≡ ys → pointwise eq-value.it xs ys ≡ true
all_insns xs ys = (pointwise_decides {E = eq-value.it} (λ x y. (λ e. search rules, λ e. search rules)) xs ys).1

pub loop-i-preserved : goal.loop-i-preserved
loop-i-preserved c =
    let i = c.loop-i.i in
    let left = c.args.left.now in
    let right = c.args.right.now in
    let within : i < length left = search rules in
    let within_right : i < length right = search rules in
    let filter = c.index-left-i.result in
    let equal : filter ≡ c.index-right-i.result = same_insns _ _ (search rules) in
    let at_right : filter ≡ get_or right i filter = rw (← equal) at c.index-right-i.is in
    let keeps_rules = c.insns.ensures in
    let is_filter : IsFilter filter =
    record { widths = keeps_rules.widths; valid = keeps_rules.valid; stored = keeps_rules.stored } in
    record {
      same = take_more_same left right i filter within within_right c.loop-i.invariant.same
          (sym c.index-left-i.is ∙ at_right);
      filters = All-more IsFilter left i filter within c.loop-i.invariant.filters (rw c.index-left-i.is at is_filter);
    }

pub returns-then-ne-clause-all : goal.returns-then-ne-clause-all
returns-then-ne-clause-all c = λ same.
    let i = c.loop-i.i in
    let left = c.args.left.now in
    let right = c.args.right.now in
    let within : i < length left = search rules in
    let within_right : i < length right = search rules in
    let filter = c.index-left-i.result in
    let other = c.index-right-i.result in
    let of_left = slice_get-get_or left i filter within in
    let of_right = slice_get-get_or right i other within_right in
    let equal : filter ≡ other = cc (same, of_left, of_right, c.index-left-i.is, c.index-right-i.is) in
    let all = all_insns filter other equal in
    grind (arith, all, c.ne.ensures, c.insns.ensures.same, c.insns-in-loop-i.ensures.same)
