-- What reading a text gives.
use Rattle.scf_text.proofs.Common.{◌≡◌, ◌≢◌, ℕ, ◌<◌, List, [], map, Option, Some, None, Result, Ok, Err, refl, sym, ap, subst, ◌∙◌, arith, append-nil, flat_map, option_or, option_map, IfOk, IfErr, Vec, nat_eq, bytes_eq, Contains, All-nil, Contains-permutation, IsDistinct, IsPermutation, IsPermutation-refl, IsPermutation-sym, IsSortedBy, is_before, Insn, TextFault, Statement, labels_from, SymbolTable, index_of, symbols_in, statements_of, parsed_insns_in, Spells, ascii_fault, statements_fault, targets_fault, fault_of, IsFault, NumberedInsn, TellsInsns, TellsText, Labels, labels_at, repeat_fault, IsFirstRepeat, TellsRepeat, name_at, parsed_insns_view, begins_of, AreKept, IsEnded, IsLeft, IsRead, Leaves, HaveTokens, nat_tests}
use Rattle.scf_text.specs.declared.fault.TextFault.TheVariants as fault
use Rattle.scf_text.specs.ParsedInsns as parsed_insns
use Rattle.scf_text.proofs.ReadLemmas.{apart, fault_first, fault_then, is_fault, index_kept, index_left}
use Rattle.scf_text.proofs.RepeatLemmas.{moved, one_first}
use Rattle.scf_text.proofs.LookupLemmas.{names_apart, indices_moved}
use Rattle.scf_text.proofs.WantedLemmas.{no_labels, none_mapped}
use Rattle.scf_text.proofs.LawLemmas.{no_fault, spelled}
use Rattle.std.proofs.lemmas.Grind.{common_steps}

pub statements_fail : (x : TextFault) (text : List ℕ) → IsFault x (statements_fault [] (statements_of text))
    → ascii_fault 1 text ≡ None → IsFault x (fault_of text)
unfolding fault_of
statements_fail x text h none = grind (arith, common_steps, nat_tests, fault_first, fault_then)

tells_then : (a b : Option TextFault) (symbols : SymbolTable) (written : List (ℕ × parsed_insns.ParsedInsn))
    (r : Result (Vec Insn) TextFault) → a ≡ None → TellsInsns b symbols written r
    → TellsInsns (option_or a b) symbols written r
tells_then a b symbols written r h h2 = grind (arith, common_steps, nat_tests, fault_then)

-- before the first statement
pub nothing_read : (text : List ℕ) (all : List Statement) {labels : List ℕ} {ds : List NumberedInsn} → labels ≡ []
    → ds ≡ [] → IsLeft text 0 all all labels ds
nothing_read text all none empty =
    rw (none, empty) (record {
      before = [];
      whole = refl;
      parsed_insns = refl;
      labels = record {
        labels = [];
        moved = IsPermutation-refl [];
        named = refl;
        rising = λ i j d lt within. absurd (omega arith);
        before = All-nil (λ s. s < 0);
        begun = All-nil (λ b. b < 0);
        following = λ i j d le within. absurd (omega arith);
        repeat = None;
        first = λ b repeat. let lt : repeat.given.0 < 0 = repeat.given.1 in absurd (omega arith);
        fault = refl;
      };
    })

-- behind the last statement

all_read : {text : List ℕ} {end : ℕ} {all : List Statement} {stored : List ℕ} {ds : List NumberedInsn}
    (left : IsLeft text end all [] stored ds) → left.before ≡ all
all_read left = sym (left.whole ∙ append-nil left.before)

pub drafts_read : {text : List ℕ} {end : ℕ} {all : List Statement} {stored : List ℕ} {ds : List NumberedInsn}
    → IsLeft text end all [] stored ds → parsed_insns_view ds ≡ flat_map parsed_insns_in all
drafts_read left = left.parsed_insns ∙ ap (flat_map parsed_insns_in) (all_read left)

none_first : (text xs ys : List ℕ) → IsPermutation xs ys → IsFirstRepeat text ys None → IsFirstRepeat text xs None
none_first text xs ys p none = λ b repeat. none b (moved p repeat)

-- the labels are sorted
pub sorted_leaves : {T : Type 0} (r : Result T TextFault) (text : List ℕ) (end : ℕ) (all : List Statement)
    (stored sorted : List ℕ) (ds : List NumberedInsn) → Leaves text r all [] (λ _. end) stored ds
    → IsPermutation stored sorted → Leaves text r all [] (λ _. end) sorted ds
sorted_leaves (Ok x) text end all stored sorted ds left p = index_left end sorted left (omega arith) p
sorted_leaves (Err e) text end all stored sorted ds ended p = record {
  end = ended.end;
  given = ended.given;
  later = ended.later;
  begins = ended.begins;
  labels = index_kept ended.end sorted ended.labels (omega arith) p;
  fault = λ none. ended.fault (none_first text stored sorted p none);
  some = ended.some;
}

module _ {text : List ℕ} {all : List Statement} {sorted : List ℕ} where
  -- the first fault, by the first repeat
  first_fault : {end : ℕ} {given : Labels} {later : Option TextFault} {begins : List ℕ} (o : Option ℕ)
      → AreKept text end given all later begins sorted → IsFirstRepeat text sorted o
      → statements_fault [] all ≡ option_or (option_map (repeat_fault text) o) later
  first_fault {later = later} o k first =
      k.fault ∙ ap (λ (r : Option ℕ). option_or (option_map (repeat_fault text) r) later)
      (one_first text k.labels sorted k.repeat o k.moved k.first first)

  told_fault : {end : ℕ} {given : Labels} {later : Option TextFault} {begins : List ℕ} (e : TextFault)
      → AreKept text end given all later begins sorted → TellsRepeat {T = Unit {0}} text sorted (Err e)
      → IsFault e (statements_fault [] all)
  told_fault e k repeat = is_fault e (statements_fault [] all) (first_fault (Some repeat.0) k repeat.1 ∙ ap Some (sym repeat.2))

  -- a repeated label is a token
  told_tokens : {end : ℕ} {later : Option TextFault} {begins : List ℕ} (e : TextFault)
      → AreKept text end (labels_from 0 all) all later begins sorted
      → TellsRepeat {T = Unit {0}} text sorted (Err e) → HaveTokens all
  told_tokens e k repeat = λ none.
      let nothing : k.labels ≡ [] = none_mapped _ k.labels (k.named ∙ no_labels 0 all none) in
      let given = subst (λ (ls : List ℕ). Contains ls repeat.0) nothing
      (Contains-permutation sorted k.labels repeat.0 (IsPermutation-sym k.labels sorted k.moved) repeat.1.0.given) in
      let lt : given.0 < 0 = given.1 in
      omega arith

  -- no label is repeated

  module _ (tells : IsDistinct nat_eq sorted → IsFirstRepeat text sorted None) where
    pub ended_told : (e : TextFault) → IsEnded text all sorted e → IsFault e (statements_fault [] all) × HaveTokens all
    ended_told e ended =
        let none = tells (apart ended.labels) in (
          subst (λ (f : Option TextFault). IsFault e f) (sym (first_fault None ended.labels none)) (ended.fault none),
          ended.some,
        )

    pub names_told : {end : ℕ} {ds : List NumberedInsn} → IsLeft text end all [] sorted ds
        → IsDistinct bytes_eq (map (name_at text) sorted)
    names_told left = names_apart text sorted (apart left.labels) (tells (apart left.labels))

pub label_told : {T : Type 0} (e : TextFault) (r : Result T TextFault) (text : List ℕ) (end : ℕ)
    (all : List Statement) (sorted : List ℕ) (ds : List NumberedInsn) → Leaves text r all [] (λ _. end) sorted ds
    → (IsDistinct nat_eq sorted → TellsRepeat {T = Unit {0}} text sorted (Err e))
    → IsFault e (statements_fault [] all) × HaveTokens all
label_told e (Ok x) text end all sorted ds left tells =
    let labels = subst (λ (ss : List Statement). AreKept text end (labels_from 0 ss) all (statements_fault ss [])
    (begins_of ds) sorted) (all_read left) left.labels in
    (told_fault e labels (tells (apart labels)), told_tokens e labels (tells (apart labels)))
label_told e (Err f) text end all sorted ds ended tells =
    (told_fault e ended.labels (tells (apart ended.labels)), ended.some)

pub is_read : (text : List ℕ) {end : ℕ} {sorted : List ℕ} {ds : List NumberedInsn}
    → IsLeft text end (statements_of text) [] sorted ds → IsSortedBy (is_before text) sorted
    → (IsDistinct nat_eq sorted → IsFirstRepeat text sorted None) → IsRead text sorted ds
is_read text {sorted = sorted} {ds} left ordered tells =
    let k = left.labels in
    let distinct = names_told tells left in
    record {
      sorted = ordered;
      distinct = distinct;
      following = k.following;
      faultless = first_fault None k (tells (apart k));
      written = drafts_read left;
      symbols = indices_moved text (begins_of ds) k.labels sorted k.moved distinct ∙ ap index_of k.named
          ∙ ap symbols_in (all_read left);
    }

pub read_tells : (text labels : List ℕ) (ds : List NumberedInsn) (r : Result (Vec Insn) TextFault)
    → IsRead text labels ds
    → TellsInsns (targets_fault (index_of (labels_at text (begins_of ds) labels)) 0 (parsed_insns_view ds))
    (index_of (labels_at text (begins_of ds) labels)) (parsed_insns_view ds) r
    → ascii_fault 1 text ≡ None → TellsText (fault_of text) text r
unfolding fault_of
read_tells text labels ds r read h none = grind (arith, common_steps, nat_tests, tells_then)

pub ascii_fails : (e : TextFault) (text : List ℕ) → ascii_fault 1 text ≡ Some e → IsFault e (fault_of text)
unfolding fault_of
ascii_fails e text h = fault_first e (ascii_fault 1 text) _ (is_fault e (ascii_fault 1 text) h)

pub is_spelled : (text : List ℕ) (r : Result (Vec Insn) TextFault) → TellsText (fault_of text) text r
    → IfOk r (λ insns. Spells text insns.items)
is_spelled text r h = grind (arith, common_steps, nat_tests, spelled)

pub is_not_spelled : (text : List ℕ) (r : Result (Vec Insn) TextFault) → TellsText (fault_of text) text r
    → IfErr r (λ e. e ≢ fault.Memory → (insns : List Insn) → Spells text insns → ⊥)
is_not_spelled text r h = grind (arith, common_steps, nat_tests, no_fault)
