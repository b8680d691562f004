-- Readers of filters, one after another.
use Rattle.scf_tool.proofs.Common.{◌≡◌, ℕ, ◌+◌, ◌<◌, ◌≤◌, List, [], ◌∷◌, ◌++◌, length, take, drop, set, get_or, map, Option, Result, Some, Ok, Err, refl, sym, ap, ◌∙◌, arith, add-one, length-drop, drop_more, take_more, take_more_set, set_split, drop-set-lt, take-append-drop, map-append, sum_by_push, AllZip, Insn, max_insns_per_path, IsPush, cost_of, PartReader, HasEnded, IsAcceptedFilter, HasStack, HasNoStack, IsNotPushed, HaveStopped, NoReadFailed, VerifyFault, FilterRead, rest_of}
use Rattle.std.proofs.lemmas.Slice.Zip.{all_zipped_more}
use Rattle.std.specs.Prelude.{IfErr}
use Rattle.scf_insn.specs.declared.encoding.ReadFault.TheVariants as reads
use Rattle.scf_tool.specs.FilterStacks.{HaveStoppedBy}

-- the lists hold the same from an index on, and this stands there
pub record SameFrom {R : Type 0} (i : ℕ) (olds news : List R) (old : R) : Type 0 where
  pub within : i < length news
  pub here : old ≡ get_or news i old
  pub same : drop i news ≡ drop i olds

-- an element that a loop over them has come to
pub same_from : {R : Type 0} (i : ℕ) (olds news : List R) (item : R) → i < length news → item ≡ get_or news i item
    → drop i news ≡ drop i olds → SameFrom i olds news (get_or news i item)
same_from i olds news item lt is same = record { within = lt; here = ap (λ d. get_or news i d) is; same = same }

module _ {R : Type 0} (i : ℕ) (olds news : List R) (old : R) (from : SameFrom i olds news old) where
  within_olds : i < length olds
  within_olds = omega (arith, from.within, ap length from.same, length-drop i news, length-drop i olds)

  old_here : old ≡ get_or olds i old
  old_here = grind (arith, drop_more, within_olds)

  same_behind : drop (i + 1) news ≡ drop (i + 1) olds
  same_behind =
      ap (λ xs. drop 1 xs)
      (sym (drop_more news i old from.within) ∙ from.same ∙ drop_more olds i old within_olds)

  olds_split : olds ≡ take i olds ++ old ∷ drop (i + 1) news
  olds_split = grind (arith, drop_more, old_here, same_behind, take-append-drop, within_olds)

  olds_taken : take (i + 1) olds ≡ take i olds ++ old ∷ []
  olds_taken = take_more olds i old within_olds ∙ ap (λ x. take i olds ++ x ∷ []) (sym old_here)

-- what is known once the readers before an index are read
pub record IsReadUpTo {R A B : Type 0} (input : R → A) (Taken : List A → B → Type 0) (Ended : R → R → Type 0) (i : ℕ)
    (olds news : List R) (so_far : B) : Type 0 where
  pub taken : Taken (map input (take i olds)) so_far
  pub ended : AllZip Ended (take i olds) (take i news)
  pub same : drop i news ≡ drop i olds

-- one more is read
pub one_more_read : {R A B : Type 0} (input : R → A) (Taken : List A → B → Type 0) (Ended : R → R → Type 0) (i : ℕ)
    (olds news : List R) (old new : R) (before after : B) → SameFrom i olds news old
    → IsReadUpTo input Taken Ended i olds news before → Taken (map input (take i olds) ++ input old ∷ []) after
    → Ended old new → IsReadUpTo input Taken Ended (i + 1) olds (set news i new) after
one_more_read input Taken Ended i olds news old new before after from upto taken end =
    let texts : map input (take (i + 1) olds) ≡ map input (take i olds) ++ input old ∷ [] =
    ap (map input) (olds_taken i olds news old from) ∙ map-append input (take i olds) (old ∷ []) in
    record {
      taken = rw texts taken;
      ended = rw (olds_taken i olds news old from, take_more_set news i new from.within)
          (all_zipped_more Ended (take i olds) (take i news) old new upto.ended end);
      same = drop-set-lt (i + 1) news i new (omega arith) ∙ same_behind i olds news old from;
    }

-- it is the last that is asked
pub readers_stop : {R A B : Type 0} (input : R → A) (Taken : List A → B → Type 0) (Ended Stopped : R → R → Type 0) (i : ℕ)
    (olds news : List R) (old new : R) (taken : B) → SameFrom i olds news old
    → IsReadUpTo input Taken Ended i olds news taken → Stopped old new
    → HaveStoppedBy Ended Stopped olds (set news i new)
readers_stop input Taken Ended Stopped i olds news old new taken from upto stopped = record {
  before = take i olds;
  before_new = take i news;
  old = old;
  new = new;
  behind = drop (i + 1) news;
  olds_are = olds_split i olds news old from;
  news_are = rw add-one (set_split news i new from.within);
  ended = upto.ended;
  stopped = stopped;
}

-- what they have, with one that isn't taken
pub texts_split : {R A : Type 0} (input : R → A) (i : ℕ) (olds news : List R) (old : R) → SameFrom i olds news old
    → map input olds ≡ map input (take i olds) ++ input old ∷ map input (drop (i + 1) news)
texts_split input i olds news old from =
    ap (map input) (olds_split i olds news old from) ∙ map-append input (take i olds) (old ∷ drop (i + 1) news)

-- ---- filters

-- what is known once the readers before an index had filters
abbrev pub IsStackUpTo : {R : Type 0} → (R → Option (List ℕ)) → (R → ℕ) → ℕ → List R → List R → List (List Insn)
    → Type 0
IsStackUpTo remaining failures i olds news stack =
    IsReadUpTo remaining HasStack (HasEnded remaining failures) i olds news stack

-- one more filter is pushed
pub stack_grows : {R : Type 0} (remaining : R → Option (List ℕ)) (failures : R → ℕ) (i : ℕ) (olds news : List R)
    (old new : R) (stack pushed : List (List Insn)) → SameFrom i olds news old
    → IsStackUpTo remaining failures i olds news stack
    → ((insns : List Insn) × IsAcceptedFilter (remaining old) insns × IsPush stack insns (Ok tt) pushed)
    → HasEnded remaining failures old new → IsStackUpTo remaining failures (i + 1) olds (set news i new) pushed
stack_grows remaining failures i olds news old new stack pushed from upto push end =
    let accepted = all_zipped_more IsAcceptedFilter (map remaining (take i olds)) stack (remaining old) push.0
    upto.taken.accepted push.1 in
    let total : cost_of (stack ++ push.0 ∷ []) ≤ max_insns_per_path + 4 =
    omega (arith, push.2.0, sum_by_push (λ filter. length filter + 4) stack push.0) in
    one_more_read remaining HasStack (HasEnded remaining failures) i olds news old new stack pushed from upto
    (rw push.2.1 record { accepted = accepted; total = total }) end

-- a filter isn't pushed
pub no_stack : {R : Type 0} (remaining : R → Option (List ℕ)) (failures : R → ℕ) (i : ℕ) (olds news : List R) (old : R)
    (stack : List (List Insn)) (fault : VerifyFault) → SameFrom i olds news old
    → IsStackUpTo remaining failures i olds news stack → IsNotPushed stack (remaining old) fault
    → HasNoStack (map remaining olds) fault
no_stack remaining failures i olds news old stack fault from upto refused = record {
  before = map remaining (take i olds);
  filter = remaining old;
  behind = map remaining (drop (i + 1) news);
  whole = texts_split remaining i olds news old from;
  stack = stack;
  has_stack = upto.taken;
  why = refused;
}

-- the readers of parts tell what the parts hold
pub told_of_parts : (readers : List PartReader) → map (λ reader. Some (rest_of reader)) readers
    ≡ map Some (map rest_of readers)
told_of_parts [] = refl
told_of_parts (reader ∷ readers) = ap (λ input. Some (rest_of reader) ∷ input) (told_of_parts readers)

-- ---- readers that never fail

module _ {R : Type 0} (remaining : R → Option (List ℕ)) where
  abbrev none : R → ℕ
  none reader = 0

  -- no read of one is why there is no stack
  pub stopped_reads_well : (texts : List (Option (List ℕ))) (fault : VerifyFault) (olds news : List R)
      → HasNoStack texts fault → HaveStopped remaining none fault olds news → NoReadFailed fault
  stopped_reads_well texts (FilterRead fault) olds news refused stopped = λ is.
      let failed : fault ≡ reads.Read = cc in absurd (omega (arith, stopped.stopped.0 failed))
  stopped_reads_well texts fault olds news refused stopped = λ is. absurd (cc)

  -- so filters are refused for another reason
  pub refused_well : {T : Type 0} (olds news : List R) (result : Result T VerifyFault)
      → IfErr result (HasNoStack (map remaining olds))
      → IfErr result (λ fault. HaveStopped remaining none fault olds news)
      → IfErr result (λ fault. NoReadFailed fault × HasNoStack (map remaining olds) fault)
  refused_well olds news (Ok stack) refused stopped = tt
  refused_well olds news (Err fault) refused stopped =
      (stopped_reads_well (map remaining olds) fault olds news refused stopped, refused)
