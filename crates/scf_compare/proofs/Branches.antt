-- Open branches, as one is opened and one is taken.
use Rattle.scf_compare.proofs.Common.{◌≡◌, Bool, ℕ, ◌+◌, ◌<◌, ◌≤◌, ◌↔◌, ◌⊎◌, inl, inr, List, [], ◌∷◌, ◌++◌, length, refl, ap, ◌∙◌, arith, length-append, Option, None, Some, true, false, if◌then◌else◌, cases_Bool, cases_lt, Atom, Branch, GoesOver, atom_answer, slice_get, slice_get_within, sum_by-append, AreWordsIn, Store, IsSameLevel, Frontier, Compared, GivesAnswer, LearnsAmong, IsFrontier, open_size, Tree, common_steps}
use Rattle.scf_machine.proofs.Indices.{index_before, index_cases, index_last}
use Rattle.scf_compare.specs.declared.frontier.OpenBranch.{OpenBranch}
use Rattle.scf_compare.specs.internal.Trees.{GoesEither, IsLaterNode, IsStep, KeepsAsked, Leaves}
use Rattle.scf_compare.specs.internal.Frontier.{HasOpened, HasTaken, IsBefore, IsWhole, IsWhollyAhead, StaysWhole, first_open_after, first_open_left}
use Rattle.scf_compare.specs.internal.Leaves.{pair_leaves}
use Rattle.scf_compare.specs.internal.Stages.{IsAfterTest, IsStageAfter}
use Rattle.scf_compare.proofs.Stages.{went_on}
use Rattle.scf_compare.specs.declared.frontier.Stage.{Stage}
use Rattle.scf_compare.specs.declared.frontier.Stage.TheVariants.{At as AtNode, AllSeen, Found}
use Rattle.std.specs.Prelude.{IfSome, IsSome}

-- ---- one more at the end of a list

pub length_more : {X : Type 0} (xs ys : List X) (x : X) → ys ≡ xs ++ x ∷ [] → length ys ≡ length xs + 1
length_more xs ys x e = ap length e ∙ length-append xs (x ∷ [])

pub size_more : {F K N : Type 0} (tree : K → Tree N) (fewer more : Frontier F K N) (b : OpenBranch K N)
    → more.branches.items ≡ fewer.branches.items ++ b ∷ []
    → open_size tree more ≡ open_size tree fewer + (tree b.known).size b.node
size_more tree fewer more b h = grind (arith, sum_by-append)

-- words that go either way give one of the answers, and come on with it
either : (atom : Option Atom) (words : List ℕ) (first second : Type 0) → GoesEither atom words first second
    → (GivesAnswer atom true words × first) ⊎ (GivesAnswer atom false words × second)
either None words first second (inl one) = inl (tt, one)
either None words first second (inr other) = inr (tt, other)
either (Some atom) words first second goes = grind (arith, cases_Bool (atom_answer atom words))

-- where an atom is asked with which facts still refute under bits of the masks alone, they do with each answer, and the
-- words come on with theirs
by_answer : (masks : ℕ) (atom : Option Atom) → KeepsAsked masks atom
    → LearnsAmong masks atom true × LearnsAmong masks atom false
    × ((words : List ℕ) (first second : Type 0) → GoesEither atom words first second
    → (GivesAnswer atom true words → first) × (GivesAnswer atom false words → second))
by_answer masks atom keeps = grind arith

pub opened : {F K N : Type 0} (store : Store F) (compared : Compared) (tree : K → Tree N) (old new : Frontier F K N)
    (known : K) (atom : Option Atom) (if_true if_false : N)
    → IsFrontier store tree (AreWordsIn compared) old
    → HasOpened store old new (record { known = known; node = if_false; asked = atom })
    → (here : Tree N) (from : N)
    → IsStep (pair_leaves compared) (store.allows old.facts (store.level old.facts)) here from (tree known)
    (Branch atom if_true if_false)
    → GoesOver store compared tree old new here from (tree known) (λ words. ⊥) if_true
opened {K = K} {N = N} store compared tree old new known atom if_true if_false f h here from step =
    let b : OpenBranch K N = record { known = known; node = if_false; asked = atom } in
    let more = length_more old.branches.items new.branches.items b h.branches in
    let cases = λ (index : ℕ) (branch : OpenBranch K N) (stands : slice_get new.branches.items index ≡ Some branch).
    index_cases old.branches.items b index branch (rw h.branches at stands) in
    record {
      frontier = record {
        marks = omega (arith, h.marks, f.marks);
        branches = λ index branch stands. grind (arith, cases index branch stands, f.branches index branch, step.proper);
        within = λ level up_to words allowed.
            grind (arith, more, f.within (store.level old.facts), h.levels level, h.known words, f.within level);
      };
      node = step.proper.1;
      words = λ words ahead. inr (elim ahead [
        | inl inside ↦
            let within = slice_get_within old.branches.items inside.index inside.branch inside.stands in
            inl (record {
              index = inside.index;
              branch = inside.branch;
              stands = rw h.branches (index_before old.branches.items b inside.index inside.branch inside.stands);
              allowed = grind (arith, f.marks, within, h.levels inside.index, inside.allowed);
              given = inside.given;
              reached = inside.reached;
            })
        | inr at ↦ elim (either atom words _ _ (step.leads words at.0 at.1)) [
          | inl met ↦ inr ((h.known words).1 (at.0, met.0), met.1)
          | inr unmet ↦ inl (record {
            index = length old.branches.items;
            branch = b;
            stands = rw h.branches (index_last old.branches.items b);
            allowed = rw (← f.marks) (((h.levels (store.level old.facts) (omega arith)).0 words).1 at.0);
            given = unmet.0;
            reached = unmet.1;
          })
        ]
      ]);
      size = omega (arith, size_more tree old new b h.branches, step.costs);
      exact = λ masks all.
          let plain = step.plain masks all.plain in
          let by = by_answer masks atom plain.0 in
          let comes = λ (words : List ℕ) (allowed : store.allows old.facts (store.level old.facts) words).
          by.2 words _ _ (step.leads words allowed (all.reached words allowed)) in
          record {
            branches = λ index branch stands.
                grind (arith, cases index branch stands, f.marks, h.levels index, all.branches index branch, comes, by.1, plain.2);
            facts = h.among masks by.0 all.facts;
            plain = plain.1;
            reached = λ words allowed. let was = (h.known words).0 allowed in (comes words was.0).0 was.1;
          };
    }

-- after an undone mark and a learned answer what is known is what was known at the mark, with the answer
pub after_undo : {F : Type 0} (store : Store F) (asked : Option Atom) (old undone new : F)
    → store.level undone + 1 ≡ store.level old
    → ((index : ℕ) → index < store.level undone + 1
    → IsSameLevel store.allows store.is_exact store.refutes_among old index undone index)
    → store.level new ≡ store.level undone
    → ((words : List ℕ) → store.allows new (store.level undone) words
    ↔ (store.allows undone (store.level undone) words × GivesAnswer asked false words))
    → ((masks : ℕ) → LearnsAmong masks asked false → store.refutes_among undone (store.level undone) masks
    → store.refutes_among new (store.level undone) masks)
    → ((words : List ℕ) → store.allows new (store.level new) words
    ↔ (store.allows old (store.level new) words × GivesAnswer asked false words))
    × ((masks : ℕ) → LearnsAmong masks asked false → store.refutes_among old (store.level new) masks
    → store.refutes_among new (store.level new) masks)
after_undo store asked old undone new closed law marks learned among =
    grind (arith, common_steps, law, learned, among)

pub taken : {F K N : Type 0} (store : Store F) (compared : Compared) (tree : K → Tree N) (old new : Frontier F K N)
    (b : OpenBranch K N)
    → IsFrontier store tree (AreWordsIn compared) old
    → HasTaken store old new b
    → (here : Tree N) (from : N)
    → 1 ≤ here.size from
    → GoesOver store compared tree old new here from (tree b.known)
    (λ words. store.allows old.facts (store.level old.facts) words × here.reaches from words) b.node
taken {K = K} {N = N} store compared tree old new b f h here from costs =
    let more = length_more new.branches.items old.branches.items b h.branches in
    let marks : store.level new.facts ≡ length new.branches.items = omega (arith, f.marks, h.marks) in
    let last : slice_get old.branches.items (store.level new.facts) ≡ Some b =
    rw (marks, h.branches) (index_last new.branches.items b) in
    let before = λ (index : ℕ) (branch : OpenBranch K N) (stands : slice_get new.branches.items index ≡ Some branch).
    let old_stands : slice_get old.branches.items index ≡ Some branch =
    rw h.branches (index_before new.branches.items b index branch stands) in old_stands in
    record {
      frontier = record {
        marks = marks;
        branches = λ index branch stands. f.branches index branch (before index branch stands);
        within = λ level up_to words allowed. grind (arith, more, f.within level, h.known words, h.levels level);
      };
      node = (f.branches (store.level new.facts) b last).node;
      words = λ words ahead. elim ahead [
        | inl inside ↦ inr (elim (index_cases new.branches.items b inside.index inside.branch (rw h.branches at inside.stands)) [
          | inl at ↦
              let lower : inside.index < store.level new.facts = omega (arith, at.0, marks) in
              inl (record {
                index = inside.index;
                branch = inside.branch;
                stands = at.1;
                allowed = ((h.levels inside.index lower).0 words).1 inside.allowed;
                given = inside.given;
                reached = inside.reached;
              })
          | inr at ↦ inr (grind (arith, marks, h.known words))
        ])
        | inr at ↦ inl at
      ];
      size = omega (arith, size_more tree new old b h.branches, costs);
      exact = λ masks all.
          let newest = all.branches (store.level new.facts) b last in
          record {
            branches = λ index branch stands.
                let within = slice_get_within new.branches.items index branch stands in
                grind (arith, marks, within, h.levels index, all.branches index branch (before index branch stands));
            facts = h.among masks newest.keeps newest.facts;
            plain = newest.plain;
            reached = λ words allowed. let known = (h.known words).0 allowed in newest.reached words known.0 known.1;
          };
    }

-- ---- paths whose tests were all decided

-- an atom that is asked leaves it open where the first open test was
after_atom : (first : Option ℕ) (atom : Option Atom) (count : ℕ) → IsSome atom
    → first_open_after first atom count ≡ first
after_atom None None count asked = grind (arith, asked)
after_atom None (Some atom) count asked = refl
after_atom (Some first) atom count asked = refl

-- what is decided behind a branch was before it
before_after : (first : Option ℕ) (atom : Option Atom) (count : ℕ) → first_open_after first atom count ≡ None
    → (first ≡ None) × IsSome atom
before_after None None count is = grind (arith, is)
before_after None (Some atom) count is = (refl, refl)
before_after (Some first) atom count is = grind (arith, is)

-- of the branches before one that is opened the same are decided
was_before : (first : Option ℕ) (atom : Option Atom) (count index : ℕ)
    → IsBefore (first_open_after first atom count) index → IsBefore first index
was_before None atom count index before = tt
was_before (Some first) atom count index before = before

-- the branch that is opened is decided only where an atom is asked, and each test before it was decided
new_before : (first : Option ℕ) (atom : Option Atom) (count : ℕ) → IfSome first (λ f. f ≤ count)
    → IsBefore (first_open_after first atom count) count → (first ≡ None) × IsSome atom
new_before None None count few before = absurd (omega arith)
new_before None (Some atom) count few before = (refl, refl)
new_before (Some first) atom count few before = absurd (omega arith)

few_after : (first : Option ℕ) (atom : Option Atom) (count : ℕ) → IfSome first (λ f. f ≤ count)
    → IfSome (first_open_after first atom count) (λ f. f ≤ count + 1)
few_after None None count few = omega arith
few_after None (Some atom) count few = tt
few_after (Some first) atom count few = omega arith

-- where an atom is asked, the words come on with its answers
by_asked : (atom : Option Atom) → IsSome atom → (words : List ℕ) (first second : Type 0)
    → GoesEither atom words first second
    → (GivesAnswer atom true words → first) × (GivesAnswer atom false words → second)
by_asked None asked words first second goes = grind (arith, asked)
by_asked (Some atom) asked words first second goes = goes

pub opened_whole : {F K N : Type 0} (store : Store F) (compared : Compared) (tree : K → Tree N) (old new : Frontier F K N)
    (known : K) (atom : Option Atom) (if_true if_false : N)
    → IsFrontier store tree (AreWordsIn compared) old
    → HasOpened store old new (record { known = known; node = if_false; asked = atom })
    → (here : Tree N) (from : N)
    (first : Option ℕ)
    → IsStep (pair_leaves compared) (store.allows old.facts (store.level old.facts)) here from (tree known)
    (Branch atom if_true if_false)
    → IsWhole store tree old first (here.reaches from)
    → StaysWhole store tree old new first (first_open_after first atom (length old.branches.items))
    ((tree known).reaches if_true)
opened_whole {K = K} {N = N} store compared tree old new known atom if_true if_false f h here from first step whole =
    let b : OpenBranch K N = record { known = known; node = if_false; asked = atom } in
    let count = length old.branches.items in
    let more = length_more old.branches.items new.branches.items b h.branches in
    let cases = λ (index : ℕ) (branch : OpenBranch K N) (stands : slice_get new.branches.items index ≡ Some branch).
    index_cases old.branches.items b index branch (rw h.branches at stands) in
    let comes = λ (is : first ≡ None) (asked : IsSome atom) (words : List ℕ)
    (allowed : store.allows old.facts (store.level old.facts) words).
    by_asked atom asked words _ _ (step.leads words allowed (whole.here is words allowed)) in
    let was = λ (index : ℕ) (within : index ≤ count) (words : List ℕ) (allowed : store.allows new.facts index words).
    let lower : index ≤ store.level old.facts = omega (arith, f.marks) in ((h.levels index lower).0 words).0 allowed in (
      record {
        few = rw more (few_after first atom count whole.few);
        asked = λ index branch stands before. elim (cases index branch stands) [
          | inl old_one ↦ whole.asked index branch old_one.1 (was_before first atom count index before)
          | inr new_one ↦
              let at : IsBefore (first_open_after first atom count) count = rw new_one.0 at before in
              rw (← new_one.1) (new_before first atom count whole.few at).1
        ];
        branches = λ index branch stands before words allowed given. elim (cases index branch stands) [
          | inl old_one ↦
              whole.branches index branch old_one.1 (was_before first atom count index before) words
              (was index (omega (arith, old_one.0)) words allowed) given
          | inr new_one ↦
              let at : IsBefore (first_open_after first atom count) count = rw new_one.0 at before in
              let decided = new_before first atom count whole.few at in
              let now : store.allows old.facts (store.level old.facts) words =
              rw (f.marks, ← new_one.0) (was index (omega (arith, new_one.0)) words allowed) in
              rw (← new_one.1) ((comes decided.0 decided.1 words now).1 (rw (← new_one.1) at given))
        ];
        answered = λ index branch stands level below within words allowed. elim (cases_lt count level) [
          | inr older ↦ elim (cases index branch stands) [
            | inl old_one ↦
                whole.answered index branch old_one.1 level below older words (was level older words allowed)
            | inr new_one ↦ absurd (omega (arith, new_one.0))
          ]
          | inl newest ↦
              let now : level ≡ store.level new.facts = omega (arith, h.marks, f.marks, more) in
              let known_now = (h.known words).0 (rw now at allowed) in
              elim (cases index branch stands) [
                | inl old_one ↦
                    whole.answered index branch old_one.1 count old_one.0 (omega arith) words
                    (rw f.marks at known_now.0)
                | inr new_one ↦ rw (← new_one.1) known_now.1
              ]
        ];
        here = λ is words allowed.
            let decided = before_after first atom count is in
            let known_now = (h.known words).0 allowed in
            (comes decided.0 decided.1 words known_now.0).0 known_now.1;
      },
      λ words ahead. elim ahead [
        | inl (index, branch, stands, before, allowed, given) ↦ elim (cases index branch stands) [
          | inl old_one ↦ inl (
            index,
            branch,
            old_one.1,
            was_before first atom count index before,
            was index (omega (arith, old_one.0)) words allowed,
            given,
          )
          | inr new_one ↦
              let at : IsBefore (first_open_after first atom count) count = rw new_one.0 at before in
              inr (
                (new_before first atom count whole.few at).0,
                rw (f.marks, ← new_one.0) (was index (omega (arith, new_one.0)) words allowed),
              )
        ]
        | inr now ↦ inr ((before_after first atom count now.0).0, ((h.known words).0 now.1).0)
      ],
    )

-- the words go on without a question
pub goes_on : {F K N : Type 0} {store : Store F} {tree : K → Tree N} {frontier : Frontier F K N} {first : Option ℕ}
    {comes_on on : List ℕ → Type 0} → IsWhole store tree frontier first comes_on
    → ((words : List ℕ) → store.allows frontier.facts (store.level frontier.facts) words → comes_on words → on words)
    → IsWhole store tree frontier first on
goes_on whole goes = grind (arith, common_steps, goes, whole.here)

-- an answer that the facts know changes nothing
pub decided_whole : {F K N : Type 0} (store : Store F) (tree : K → Tree N) (frontier : Frontier F K N)
    (first : Option ℕ) (atom : Atom) {comes_on on : List ℕ → Type 0} (count : ℕ)
    → IsWhole store tree frontier first comes_on
    → ((words : List ℕ) → store.allows frontier.facts (store.level frontier.facts) words → comes_on words → on words)
    → StaysWhole store tree frontier frontier first (first_open_after first (Some atom) count) on
decided_whole store tree frontier first atom count whole goes =
    rw (after_atom first (Some atom) count refl) (goes_on whole goes, λ words ahead. ahead)

-- a test whose answer the facts know leads to one node
pub known_step : {N E : Type 0} (leaves : Leaves E) (given : List ℕ → Type 0) (here : Tree N) (from : N)
    (there : Tree N) (atom : Atom) (if_true if_false : N) (answer : Bool)
    → ((words : List ℕ) → given words → atom_answer atom words ≡ answer)
    → IsStep leaves given here from there (Branch (Some atom) if_true if_false)
    → let next = if answer then if_true else if_false in
    IsLaterNode given here from there next × (there.size next + 1 ≤ here.size from)
known_step leaves given here from there atom if_true if_false true known step =
    grind (arith, common_steps, step.leads, known, step.plain)
known_step leaves given here from there atom if_true if_false false known step = (
  record {
    node = step.proper.2;
    reached = λ words allowed reached. (step.leads words allowed reached).1 (known words allowed);
    size = omega (arith, step.costs);
    plain = λ masks plain. (step.plain masks plain).2;
  },
  omega (arith, step.costs),
)

pub known_test : {F K N : Type 0} (store : Store F) (compared : Compared) (tree : K → Tree N) (frontier : Frontier F K N)
    (known : K) (atom : Atom) (if_true if_false : N) (answer : Bool)
    → IsFrontier store tree (AreWordsIn compared) frontier
    → ((words : List ℕ) → store.allows frontier.facts (store.level frontier.facts) words
    → atom_answer atom words ≡ answer)
    → IsAfterTest store compared tree frontier frontier known (Some atom) if_true if_false
    (if answer then if_true else if_false)
known_test {K = K} {N = N} store compared tree frontier known atom if_true if_false answer f known_answer =
    let given = store.allows frontier.facts (store.level frontier.facts) in
    let leads = λ (before : K) (from : N).
    known_step (pair_leaves compared) given (tree before) from (tree known) atom if_true if_false answer known_answer in
    record {
      goes = λ before from step.
          let (later, costs) = leads before from step in
          went_on store tree frontier (tree before) from (tree known) _ later f costs;
      whole = λ before from first step whole.
          decided_whole store tree frontier first atom (length frontier.branches.items) whole
          (leads before from step).0.reached;
    }

-- the branches before one that is taken were decided
was_left : (first : Option ℕ) (count index : ℕ) → index < count → IsBefore (first_open_left first count) index
    → IsBefore first index
was_left None count index lower before = tt
was_left (Some first) count index lower before = grind (arith, before)

-- it was, where all is decided behind it
left_decided : (first : Option ℕ) (count : ℕ) → first_open_left first count ≡ None → IsBefore first count
left_decided None count is = tt
left_decided (Some first) count is = grind (arith, is)

few_left : (first : Option ℕ) (count : ℕ) → IfSome (first_open_left first count) (λ f. f ≤ count)
few_left None count = tt
few_left (Some first) count = grind arith

-- an atom doesn't have both answers
one_answer_alone : (atom : Option Atom) (words : List ℕ) → IsSome atom → GivesAnswer atom true words
    → GivesAnswer atom false words → ⊥
one_answer_alone None words asked given_true given_false = grind (arith, asked)
one_answer_alone (Some atom) words asked given_true given_false = grind (arith, given_true, given_false)

pub taken_whole : {F K N : Type 0} (store : Store F) (compared : Compared) (tree : K → Tree N) (old new : Frontier F K N)
    (b : OpenBranch K N)
    → IsFrontier store tree (AreWordsIn compared) old
    → HasTaken store old new b
    → (here : Tree N) (from : N) (first : Option ℕ) → IsWhole store tree old first (here.reaches from)
    → let after = first_open_left first (length new.branches.items) in
    StaysWhole store tree old new first after ((tree b.known).reaches b.node)
    × (first ≡ None → (words : List ℕ) → store.allows old.facts (store.level old.facts) words
    → IsWhollyAhead store tree new after words → ⊥)
taken_whole {K = K} {N = N} store compared tree old new b f h here from first whole =
    let count = length new.branches.items in
    let more = length_more new.branches.items old.branches.items b h.branches in
    let marks : store.level new.facts ≡ count = omega (arith, more, f.marks, h.marks) in
    let last : slice_get old.branches.items count ≡ Some b = rw h.branches (index_last new.branches.items b) in
    let before = λ (index : ℕ) (branch : OpenBranch K N) (stands : slice_get new.branches.items index ≡ Some branch).
    let old_stands : slice_get old.branches.items index ≡ Some branch =
    rw h.branches (index_before new.branches.items b index branch stands) in old_stands in
    let was = λ (index : ℕ) (lower : index < count) (words : List ℕ) (allowed : store.allows new.facts index words).
    let below : index < store.level new.facts = omega (arith, marks) in ((h.levels index below).0 words).0 allowed in
    let known_now : (words : List ℕ) → store.allows new.facts (store.level new.facts) words
    → store.allows old.facts count words × GivesAnswer b.asked false words =
    λ words allowed. rw marks at ((h.known words).0 allowed) in
    let fewer : (words : List ℕ) → IsWhollyAhead store tree new (first_open_left first count) words
    → (index : ℕ) × (branch : OpenBranch K N) × (slice_get old.branches.items index ≡ Some branch)
    × IsBefore first index × store.allows old.facts index words × GivesAnswer branch.asked false words =
    λ words ahead. elim ahead [
      | inl (index, branch, stands, decided, allowed, given) ↦
          let lower = slice_get_within new.branches.items index branch stands in (
            index,
            branch,
            before index branch stands,
            was_left first count index lower decided,
            was index lower words allowed,
            given,
          )
      | inr now ↦
          let both = known_now words now.1 in (count, b, last, left_decided first count now.0, both.0, both.1)
    ] in (
      (
        record {
          few = few_left first count;
          asked = λ index branch stands decided.
              let lower = slice_get_within new.branches.items index branch stands in
              whole.asked index branch (before index branch stands) (was_left first count index lower decided);
          branches = λ index branch stands decided words allowed given.
              let lower = slice_get_within new.branches.items index branch stands in
              whole.branches index branch (before index branch stands) (was_left first count index lower decided) words
              (was index lower words allowed) given;
          answered = λ index branch stands level below within words allowed.
              let old_stands = before index branch stands in
              elim (cases_lt level count) [
                | inl lower ↦
                    whole.answered index branch old_stands level below (omega (arith, more)) words
                    (was level lower words allowed)
                | inr newest ↦
                    let now : level ≡ store.level new.facts = omega (arith, marks) in
                    whole.answered index branch old_stands count (omega arith) (omega (arith, more)) words
                    (known_now words (rw now at allowed)).0
              ];
          here = λ is words allowed.
              let both = known_now words allowed in
              whole.branches count b last (left_decided first count is) words both.0 both.1;
        },
        λ words ahead. inl (fewer words ahead),
      ),
      λ none words allowed ahead.
          let (index, branch, stands, decided, there, given) = fewer words ahead in
          let lower = slice_get_within old.branches.items index branch stands in
          one_answer_alone branch.asked words (whole.asked index branch stands decided)
          (whole.answered index branch stands (store.level old.facts) (omega (arith, f.marks, lower))
          (omega (arith, f.marks)) words allowed) given,
    )

-- ---- what was seen

-- where these words were seen, those were
pub weaken : {F K N : Type 0} {store : Store F} {compared : Compared} {tree : K → Tree N} {old new : Frontier F K N}
    {here : Tree N} {from : N} {there : Tree N} {was more : List ℕ → Type 0} {next : N}
    → ((words : List ℕ) → was words → more words)
    → GoesOver store compared tree old new here from there was next
    → GoesOver store compared tree old new here from there more next
weaken follows over = grind (arith, common_steps, follows)

pub weaken_stage : (F K N : Type 0) (store : Store F) (compared : Compared) (tree : K → Tree N) (old new : Frontier F K N)
    (here : Tree N) (from : N) (there : Tree N) (was more : List ℕ → Type 0) (stage : Stage N)
    → ((words : List ℕ) → was words → more words)
    → IsStageAfter store compared tree old new here from there was stage
    → IsStageAfter store compared tree old new here from there more stage
weaken_stage F K N store compared tree old new here from there was more (AtNode next) follows over = weaken follows over
weaken_stage F K N store compared tree old new here from there was more AllSeen follows all =
    λ words ahead. follows words (all words ahead)
weaken_stage F K N store compared tree old new here from there was more (Found finding) follows found = found
