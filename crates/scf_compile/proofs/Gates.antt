-- What is put before searches leads each call to the one of its architecture.
use Rattle.scf_compile.proofs.Common.{Answers, ◌≡◌, ◌≢◌, ℕ, suc, ◌+◌, ◌-◌, ◌*◌, ◌<◌, ◌≤◌, ◌^◌, Bool, true, eqb, not, filter, List, [], ◌∷◌, ◌++◌, length, refl, sym, ap, ◌∙◌, arith, inl, inr, cases_eq, cases_Bool, eq-eqb, ne_eqb, eqb-true, eqb-false, nil_from_length, le-leb, nat_tests, length-append, length-filter_both, AllByRecursion, Insn, CallRecord, Test, Equal, GreaterOrEqual, JumpIf, Constant, IsPlainOperation, words_of, IsOf, row_of, seccomp_ret_kill_process as kill, Position, Search, load_word, jump_if, return_with, branch_code, skip_code, code_from, IsFirst, IsPut, ArePut, EndsWithin, audit_of, AllStand, IsSearched, AreTestsPut, IsGatePut, IsGated, IsDispatchPut, common_steps}
use Rattle.scf_insn.proofs.Architectures.{reach}
use Rattle.scf_compile.proofs.Runs.{answers, more, loads, passes, load_sound, pass_sound, return_sound}
use Rattle.scf_compile.proofs.RuleCode.{return_answers, answers_put, answers_there, from_behind, from_first}
use Rattle.scf_compile.proofs.RuleCode.{branch_ends, branch_sound, branch_stays}

-- ---- what is put before some code, and then more

kill_answers : Answers (return_with kill ∷ []) 1 (Unit {0}) (λ _. kill)
kill_answers = return_answers kill 1 (Unit {0}) (omega arith)

pub kill_put : {before after : List Insn} {index : Position} → IsPut (return_with kill ∷ []) before after index
    → ArePut (Unit {0}) before after index
kill_put put = answers_put (Unit {0}) kill_answers (λ _. tt) put

then_put : {before mid after : List Insn} {p q : Position} → ArePut (Unit {0}) before mid p
    → ArePut (Unit {0}) mid after q → ArePut (Unit {0}) before after q
then_put earlier later = grind (arith, common_steps, nat_tests)

-- an index of some code
abbrev Stands : Position → List Insn → Type 0
Stands index code = (0 < index.0) × (index.0 ≤ length code)

put_stands : {before after : List Insn} {index : Position} → ArePut (Unit {0}) before after index → Stands index after
put_stands put = (put.some, put.near.stands)

module _ (target : Position) {before after : List Insn} {index : Position}
    (put : IsFirst (skip_code (length before - target.0)) before after index) (stands : Stands target before) where
  abbrev passed : ℕ
  passed = length before - target.0

  -- a jump, or none where the code begins there
  jump_ends : {words : List ℕ} {answer most : ℕ} (a : ℕ) → EndsWithin words (code_from target before) a answer most
      → EndsWithin words after a answer (suc most)
  jump_ends a e = grind (arith, common_steps, nat_tests, cases_eq, eq-eqb, more, ne_eqb, passes)

  jump_few : length after ≤ 1 + length before
  jump_few = grind (arith, common_steps, nat_tests, cases_eq, eq-eqb, ne_eqb)

  jump_put : ArePut (Unit {0}) before after index
  jump_put = grind (arith, common_steps, nat_tests, length-append, from_behind, cases_eq, eq-eqb, ne_eqb, pass_sound)

module _ (test : Test) (constant : ℕ) (hit miss : Position) {before after : List Insn} {index : Position}
    (put : IsFirst (branch_code test constant (length before - hit.0) (length before - miss.0)) before after
    index) where
  branch_put : ((h m : ℕ) → IsPlainOperation (JumpIf test Constant) (jump_if test constant h m)) → Stands hit before
      → Stands miss before → ArePut (Unit {0}) before after index
  branch_put plain h m =
      let branch = branch_stays test constant hit miss put in
      record {
        longer = branch.0;
        stays = branch.1;
        some = omega (arith, put.first, branch.0);
        near = record { stands = omega (arith, put.first); near = omega (arith, put.first) };
        sound = λ asked is s. branch_sound test constant hit miss put asked plain (omega arith) (omega arith) s;
      }

  -- a single instruction, where both are near
  branch_one : length before ≤ miss.0 + 255 → length after ≤ 1 + length before
  branch_one near = grind (arith, common_steps, nat_tests, le-leb)

-- ---- tests of the number

-- where the call isn't of the first search, the others answer it
others_searched : {s : Search} {ss : List Search} {code : List Insn} {call : CallRecord} {answer most : ℕ}
    → IsSearched (s ∷ ss) code call answer most → (IsOf s.architecture call → ⊥) → IsSearched ss code call answer most
others_searched is differs = record { each = is.each.1; none = λ all. is.none (differs, all); some = is.some }

pub tests_none : (least : ℕ) {before after : List Insn} {index : Position}
    → IsPut (return_with kill ∷ []) before after index → AreTestsPut least [] before after index
tests_none least put = record {
  put = kill_put put;
  front = inl refl;
  small = omega (arith, put.few);
  ends = λ call answer most fits audits from is.
      rw (is.none tt) (more (answers_there kill_answers put call fits call.nr) (omega (arith, is.some)));
}

abbrev pub first_of : Search → ℕ
first_of s = (row_of s.architecture).first

abbrev pub last_of : Search → ℕ
last_of s = (row_of s.architecture).last

module _ (least : ℕ) (s : Search) (ss : List Search) {before : List Insn} (stands : Stands s.index before) where
  -- its numbers end: those above them are for the others
  pub tests_below : {mid after : List Insn} {above index : Position} → last_of s < 2 ^ 32 - 1
      → AreTestsPut (last_of s + 1) ss before mid above
      → IsFirst (branch_code GreaterOrEqual (last_of s + 1) (length mid - above.0) (length mid - s.index.0)) mid after
      index
      → AreTestsPut least (s ∷ ss) before after index
  tests_below {mid} {after} {above} {index} end others put =
      let from_zero : first_of s ≡ 0 =
      elim (reach s.architecture).an_end [ inl zero ↦ zero | inr all ↦ absurd (omega arith) ] in
      let longer = others.put.longer in
      record {
        put = then_put others.put (branch_put GreaterOrEqual (last_of s + 1) above s.index put (λ h m. tt)
            (put_stands others.put) (stands.0, omega (arith, stands.1)));
        front = inr put.first;
        small = omega (arith, others.small, put.few);
        ends = λ call answer most fits audits from is.
            rw (from_first after index put.first) (more (branch_ends GreaterOrEqual (last_of s + 1) above s.index put
            {most = 2 * length ss + most} call.nr 2 put.few
            (λ e. let over : last_of s + 1 ≤ call.nr = grind (arith, nat_tests, e) in
            others.ends call answer most fits audits.1 over (others_searched is (λ o. let l = o.last in omega arith)))
            (λ e. let under : call.nr < last_of s + 1 = grind (arith, nat_tests, e) in
            let its : IsOf s.architecture call = record { arch = audits.0; first = omega arith; last = omega arith } in
            rw (others.put.stays s.index stands.1) (more (is.each.0 its) (omega arith)))) (omega arith));
      }

  -- they don't end, but begin above the numbers that can come: those below them are for the others
  pub tests_above : {mid jumped after : List Insn} {below beside index : Position} → 2 ^ 32 - 1 ≤ last_of s
      → AreTestsPut least ss before mid below
      → IsFirst (skip_code (length mid - s.index.0)) mid jumped beside
      → IsFirst (branch_code GreaterOrEqual (first_of s) (length jumped - beside.0) (length jumped - below.0)) jumped
      after index
      → AreTestsPut least (s ∷ ss) before after index
  tests_above {mid} {jumped} {after} {below} {beside} {index} end others jump put =
      let longer = others.put.longer in
      let there : Stands s.index mid = (stands.0, omega (arith, stands.1)) in
      let few = jump_few s.index jump there in
      let jumps_there = jump_put s.index jump there in
      let near = others.put.near in
      let branch = branch_one GreaterOrEqual (first_of s) beside below put (omega (arith, near.near)) in
      let jumped_longer = jumps_there.longer in
      record {
        put = then_put others.put (then_put jumps_there (branch_put GreaterOrEqual (first_of s) beside below put
            (λ h m. tt) (put_stands jumps_there) (others.put.some, omega (arith, near.stands))));
        front = inr put.first;
        small = omega (arith, others.small);
        ends = λ call answer most fits audits from is.
            rw (from_first after index put.first) (more (branch_ends GreaterOrEqual (first_of s) beside below put
            {most = 1 + 2 * length ss + most} call.nr 1 branch
            (λ e. let over : first_of s ≤ call.nr = grind (arith, nat_tests, e) in
            let nr = fits.nr in
            let its : IsOf s.architecture call = record { arch = audits.0; first = over; last = omega arith } in
            rw (from_first jumped beside jump.first) (more (jump_ends s.index jump there {most = most} call.nr
            (rw (others.put.stays s.index stands.1) (is.each.0 its))) (omega arith)))
            (λ e. let under : call.nr < first_of s = grind (arith, nat_tests, e) in
            rw (jumps_there.stays below near.stands) (more (others.ends call answer most fits audits.1 from
            (others_searched is (λ o. let f = o.first in omega arith))) (omega arith)))) (omega arith));
      }

  -- all numbers that can come are its own
  pub tests_all : {after : List Insn} {index : Position} → 2 ^ 32 - 1 ≤ last_of s → first_of s ≤ least
      → IsFirst (skip_code (length before - s.index.0)) before after index
      → AreTestsPut least (s ∷ ss) before after index
  tests_all {after} {index} end begin jump = record {
    put = jump_put s.index jump stands;
    front = inr jump.first;
    small = omega (arith, jump_few s.index jump stands);
    ends = λ call answer most fits audits from is.
        let nr = fits.nr in
        let its : IsOf s.architecture call = record { arch = audits.0; first = omega arith; last = omega arith } in
        rw (from_first after index jump.first) (more (jump_ends s.index jump stands {most = most} call.nr (is.each.0 its))
        (omega arith));
  }

-- ---- what loads the number

pub gate_put : (ss : List Search) {before mid after : List Insn} {index : Position} (gate : Position) → 0 < length ss
    → AreTestsPut 0 ss before mid index → after ≡ load_word 0 ∷ mid → gate.0 ≡ length after
    → IsGatePut ss before after gate
gate_put ss {before} {mid} {after} {index} gate some tests whole here =
    let front : index.0 ≡ length mid =
    elim tests.front [ inl none ↦ absurd (omega (arith, ap (λ (l : List Search). length l) none)) | inr f ↦ f ] in
    let len : length after ≡ suc (length mid) = ap (λ (l : List Insn). length l) whole in
    let there = put_stands tests.put in
    record {
      put = then_put tests.put (record {
        longer = omega arith;
        stays = λ p le. ap (code_from p) whole ∙ from_behind (load_word 0 ∷ []) mid p le;
        some = omega arith;
        near = record { stands = omega arith; near = omega arith };
        sound = λ asked is s. rw whole (load_sound 0 (omega arith) (omega (arith, there.0, there.1)), s);
      });
      front = here;
      small = omega (arith, tests.small);
      ends = λ call a answer most fits audits is.
          rw whole (more (loads 0 a (omega arith) refl
          (rw (from_first mid index front) at (tests.ends call answer most fits audits (omega arith) is))) (omega arith));
    }

-- the only code that calls are led to
pub gated : (audit : ℕ) {before loaded killed tested after : List Insn} {beside index : Position} (gate : Position)
    → 0 < length before → loaded ≡ load_word 0 ∷ before → gate.0 ≡ length loaded
    → IsPut (return_with kill ∷ []) loaded killed beside
    → IsFirst (branch_code Equal audit (length killed - gate.0) (length killed - beside.0)) killed tested index
    → after ≡ load_word 1 ∷ tested → IsGated audit before after
gated audit {before} {loaded} {killed} {tested} {after} {beside} gate some load here kills put whole =
    let killed_put = kill_put kills in
    let longer = killed_put.longer in
    let near = killed_put.near in
    let few = branch_one Equal audit gate beside put (omega (arith, near.near)) in
    let len : length loaded ≡ suc (length before) = ap (λ (l : List Insn). length l) load in
    let whole_len : length after ≡ suc (length tested) = ap (λ (l : List Insn). length l) whole in
    let there : Stands gate killed = (omega arith, omega arith) in
    let branch = branch_put Equal audit gate beside put (λ h m. tt) there (put_stands killed_put) in
    record {
      some = omega arith;
      small = omega (arith, kills.few);
      sound = λ asked s.
          rw whole (
            load_sound 1 (omega arith) (omega (arith, branch.longer)),
            branch.sound asked (λ _. tt) (killed_put.sound asked (λ _. tt)
                (rw load (load_sound 0 (omega arith) some, s))),
          );
      matching = λ call answer most fits same e.
          rw whole (more (loads 1 0 (omega arith) refl (branch_ends Equal audit gate beside put {most = suc most}
          call.arch 1 few
          (λ _. rw (killed_put.stays gate (omega arith), from_first loaded gate here, load)
          (loads 0 call.arch (omega arith) refl e))
          (λ differs. absurd (eqb-false call.arch audit differs same)))) (omega arith));
      foreign = λ call fits differs.
          rw whole (more (loads 1 0 (omega arith) refl (branch_ends Equal audit gate beside put {most = 1}
          call.arch 1 few
          (λ same. absurd (differs (eqb-true call.arch audit same)))
          (λ _. answers_there kill_answers kills call fits call.arch))) (omega arith));
    }

-- ---- searches with a value of `arch`, and the others

filtered : (P : Search → Type 0) (p : Search → Bool) (ss : List Search) → AllByRecursion P ss
    → AllByRecursion P (filter p ss)
filtered P p [] all = tt
filtered P p (s ∷ ss) all =
    elim (cases_Bool (p s)) [
      | inl met ↦ rw met (all.0, filtered P p ss all.1)
      | inr unmet ↦ rw unmet (filtered P p ss all.1)
    ]

passing : (P : Search → Type 0) (p : Search → Bool) (ss : List Search) → ((s : Search) → p s ≡ true → P s)
    → AllByRecursion P (filter p ss)
passing P p [] is = tt
passing P p (s ∷ ss) is =
    elim (cases_Bool (p s)) [
      | inl met ↦ rw met (is s met, passing P p ss is)
      | inr unmet ↦ rw unmet (passing P p ss is)
    ]

both_parts : (P : Search → Type 0) (p : Search → Bool) (ss : List Search) → AllByRecursion P (filter p ss)
    → AllByRecursion P (filter (λ s. not (p s)) ss) → AllByRecursion P ss
both_parts P p [] matching others = tt
both_parts P p (s ∷ ss) matching others =
    elim (cases_Bool (p s)) [
      | inl met ↦
          let mine : P s × AllByRecursion P (filter p ss) = rw met at matching in
          let later : AllByRecursion P (filter (λ s. not (p s)) ss) = rw met at others in
          (mine.0, both_parts P p ss mine.1 later)
      | inr unmet ↦
          let mine : AllByRecursion P (filter p ss) = rw unmet at matching in
          let later : P s × AllByRecursion P (filter (λ s. not (p s)) ss) = rw unmet at others in
          (later.0, both_parts P p ss mine later.1)
    ]

pub stand_longer : (before after : List Insn) (ss : List Search) → length before ≤ length after → AllStand ss before
    → AllStand ss after
stand_longer before after [] longer all = tt
stand_longer before after (s ∷ ss) longer all = grind (arith, common_steps, nat_tests, stand_longer before after ss longer all.1)

module _ (audit : ℕ) where
  abbrev pub has : Search → Bool
  has s = eqb (audit_of s) audit

  abbrev pub own_of : List Search → List Search
  own_of ss = filter has ss

  abbrev pub others_of : List Search → List Search
  others_of ss = filter (λ s. not (has s)) ss

  pub parts_stand : (ss : List Search) (code : List Insn) → AllStand ss code
      → AllStand (own_of ss) code × AllStand (others_of ss) code
  parts_stand ss code all = (filtered _ has ss all, filtered _ (λ s. not (has s)) ss all)

  pub parts_len : (ss : List Search) → length (own_of ss) + length (others_of ss) ≡ length ss
  parts_len ss = length-filter_both has (λ s. not (has s)) (λ s. refl) ss

  own_audit : (call : CallRecord) (ss : List Search) → call.arch ≡ audit
      → AllByRecursion (λ s. call.arch ≡ audit_of s) (own_of ss)
  own_audit call ss same = passing _ has ss (λ s yes. same ∙ sym (eqb-true (audit_of s) audit yes))

  -- a call with that value is of none of the others, and one with another value of none with that one
  not_others : (call : CallRecord) (ss : List Search) → call.arch ≡ audit
      → AllByRecursion (λ s. IsOf s.architecture call → ⊥) (others_of ss)
  not_others call ss same =
      passing _ (λ s. not (has s)) ss
      (λ s differs is_of. let arch = is_of.arch in grind (arith, nat_tests, differs, arch, same))

  not_own : (call : CallRecord) (ss : List Search) → call.arch ≢ audit
      → AllByRecursion (λ s. IsOf s.architecture call → ⊥) (own_of ss)
  not_own call ss differs = passing _ has ss (λ s yes is_of. differs (is_of.arch ∙ eqb-true (audit_of s) audit yes))

  module _ {ss : List Search} {code : List Insn} {call : CallRecord} {answer most : ℕ}
      (is : IsSearched ss code call answer most) where
    own_searched : call.arch ≡ audit → IsSearched (own_of ss) code call answer most
    own_searched same = record {
      each = filtered _ has ss is.each;
      none = λ all. is.none (both_parts _ has ss all (not_others call ss same));
      some = is.some;
    }

    rest_searched : call.arch ≢ audit → IsSearched (others_of ss) code call answer most
    rest_searched differs = record {
      each = filtered _ (λ s. not (has s)) ss is.each;
      none = λ all. is.none (both_parts _ has ss (not_own call ss differs) all);
      some = is.some;
    }

-- searches answer alike where more code is put before them
searched_stays : {before after : List Insn} {index : Position} {call : CallRecord} {answer most : ℕ} (ss : List Search)
    → ArePut (Unit {0}) before after index → AllStand ss before → IsSearched ss before call answer most
    → IsSearched ss after call answer most
searched_stays {before} {after} {index} {call} {answer} {most} ss put stand is =
    record { each = each ss stand is.each; none = is.none; some = is.some } where
      each : (ts : List Search) → AllStand ts before
          → AllByRecursion (λ s. IsOf s.architecture call
          → EndsWithin (words_of call) (code_from s.index before) call.nr answer most) ts
          → AllByRecursion (λ s. IsOf s.architecture call
          → EndsWithin (words_of call) (code_from s.index after) call.nr answer most) ts
      each [] all ends = tt
      each (t ∷ ts) all ends = (λ is_of. rw (put.stays t.index all.0.1) (ends.0 is_of), each ts all.1 ends.1)

-- ---- tests of `arch`

pub dispatch_none : {before after : List Insn} {index : Position} → after ≡ return_with kill ∷ [] ++ before
    → index.0 ≡ length after → IsDispatchPut [] before after index
dispatch_none {before} {after} {index} whole here =
    let len : length after ≡ suc (length before) = ap (λ (l : List Insn). length l) whole in
    record {
      put = record {
        longer = omega arith;
        stays = λ p le. ap (code_from p) whole ∙ from_behind (return_with kill ∷ []) before p le;
        some = omega arith;
        near = record { stands = omega arith; near = omega arith };
        sound = λ asked is s. rw whole (return_sound kill, s);
      };
      front = here;
      small = omega arith;
      ends = λ call answer most fits is.
          rw (whole, is.none tt) (more {m = 1} (answers kill call.arch) (omega (arith, is.some)));
    }

-- the first search has its own value of `arch`
pub own_some : (s : Search) (later : List Search) → 0 < length (own_of (audit_of s) (s ∷ later))
own_some s later = rw (eq-eqb (audit_of s) (audit_of s) refl) (omega arith)

module _ (s : Search) (later : List Search) where
  abbrev audit : ℕ
  audit = audit_of s

  abbrev all : List Search
  all = s ∷ later

  abbrev matching : List Search
  matching = own_of audit all

  abbrev others : List Search
  others = others_of audit all

  -- the value of `arch` is the only one
  pub dispatch_one : {before gated killed after : List Insn} {gate beside index : Position} → length others ≡ 0
      → IsGatePut matching before gated gate → IsPut (return_with kill ∷ []) gated killed beside
      → IsFirst (branch_code Equal audit (length killed - gate.0) (length killed - beside.0)) killed after index
      → IsDispatchPut all before after index
  dispatch_one {before} {gated} {killed} {after} {gate} {beside} {index} none gates kills put =
      let killed_put = kill_put kills in
      let longer = killed_put.longer in
      let near = killed_put.near in
      let few = branch_one Equal audit gate beside put (omega (arith, near.near)) in
      let parts = parts_len audit all in
      let there : Stands gate killed = (gates.put.some, omega (arith, gates.front)) in
      record {
        put = then_put gates.put (then_put killed_put
            (branch_put Equal audit gate beside put (λ h m. tt) there (put_stands killed_put)));
        front = put.first;
        small = omega (arith, gates.small, kills.few, parts, own_some s later);
        ends = λ call answer most fits is.
            more (branch_ends Equal audit gate beside put {most = 1 + 2 * length matching + most} call.arch 1 few
            (λ e. let same : call.arch ≡ audit = eqb-true call.arch audit e in
            rw (killed_put.stays gate (omega (arith, gates.front)), from_first gated gate gates.front)
            (gates.ends call call.arch answer most fits (own_audit audit call all same) (own_searched audit is same)))
            (λ e. let differs : call.arch ≢ audit = eqb-false call.arch audit e in
            let nothing = rest_searched audit is differs in
            let empty : others ≡ [] = nil_from_length others none in
            rw (nothing.none (rw empty tt)) (more (answers_there kill_answers kills call fits call.arch)
            (omega arith)))) (omega arith);
      }

  -- there are others, whose tests follow
  pub dispatch_more : {before mid gated after : List Insn} {next gate index : Position} → AllStand all before
      → 0 < length others
      → IsDispatchPut others before mid next → IsGatePut matching mid gated gate
      → IsFirst (branch_code Equal audit (length gated - gate.0) (length gated - next.0)) gated after index
      → IsDispatchPut all before after index
  dispatch_more {before} {mid} {gated} {after} {next} {gate} {index} stand some dispatched gates put =
      let parts = parts_len audit all in
      let longer = gates.put.longer in
      let there : Stands next gated = (dispatched.put.some, omega (arith, dispatched.front)) in
      record {
        put = then_put dispatched.put (then_put gates.put
            (branch_put Equal audit gate next put (λ h m. tt) (put_stands gates.put) there));
        front = put.first;
        small = omega (arith, dispatched.small, gates.small, put.few, parts, own_some s later);
        ends = λ call answer most fits is.
            more (branch_ends Equal audit gate next put {most = 2 * length all + most} call.arch 2 put.few
            (λ e. let same : call.arch ≡ audit = eqb-true call.arch audit e in
            let stands = (parts_stand audit all before stand).0 in
            let mine = searched_stays matching dispatched.put stands (own_searched audit is same) in
            rw (from_first gated gate gates.front)
            (more (gates.ends call call.arch answer most fits (own_audit audit call all same) mine) (omega arith)))
            (λ e. let differs : call.arch ≢ audit = eqb-false call.arch audit e in
            rw (gates.put.stays next (omega (arith, dispatched.front)), from_first mid next dispatched.front)
            (more (dispatched.ends call answer most fits (rest_searched audit is differs))
            (omega (arith, parts, own_some s later))))) (omega arith);
      }
