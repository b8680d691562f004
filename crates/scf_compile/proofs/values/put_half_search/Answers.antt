use Rattle.scf_compile.proofs.Common.{auto_rules, ◌≡◌, ◌+◌, ◌∷◌, ℕ, All, sym, ◌∙◌, get_or, length, row_of, Bits32, Bits64, ArgumentValue, load_word, argument_word}
use Rattle.scf_compile.proofs.ValueSearches.{narrow_put, wide_put}
use Rattle.scf_compile.proofs.values.put_half_search.Goals as goal

pub returns-in-Bits32 : goal.returns-in-Bits32
returns-in-Bits32 c =
    let vs = c.args.values.now in
    let some : ArgumentValue = record { index = 0; value = 0; answer = record { 0 = 0 } } in
    let place = (get_or vs 0 some).index in
    let here : c.len.result ≡ length c.args.code.now.items = search auto_rules in
    let load : c.push_front.new.self.items ≡ load_word (argument_word place) ∷ c.put_value_search.new.code.items =
    search auto_rules in
    let same : (i : ℕ) → All (λ v. v.index ≡ i) vs → i ≡ place = λ i all. sym (all 0 some c.requires.some) in
    let bits : (row_of c.args.architecture).bits ≡ Bits32 = sym c.argument_bits.ensures ∙ c.in-Bits32.is in
    rw load (narrow_put c.args.architecture vs c.requires.fine c.requires.some c.requires.code here
    c.in_ok-put_value_search.ensures c.args.half c.requires.halves place
    (c.requires.fine 0 some c.requires.some).index same bits)

pub returns-in_ok-push_front-in-Bits64 : goal.returns-in_ok-push_front-in-Bits64
returns-in_ok-push_front-in-Bits64 c =
    let vs = c.args.values.now in
    let some : ArgumentValue = record { index = 0; value = 0; answer = record { 0 = 0 } } in
    let place = (get_or vs 0 some).index in
    let here : c.len.result ≡ length c.args.code.now.items = search auto_rules in
    let load : c.push_front.new.self.items ≡ load_word (argument_word place) ∷ c.put_value_search.new.code.items =
    search auto_rules in
    let begin : c.len-in-Bits64.result ≡ length c.push_front.new.self.items = search auto_rules in
    let whole : c.push_front-in-Bits64.new.self.items
    ≡ load_word (argument_word place + 1) ∷ c.put_branch.new.code.items = search auto_rules in
    let same : (i : ℕ) → All (λ v. v.index ≡ i) vs → i ≡ place = λ i all. sym (all 0 some c.requires.some) in
    let bits : (row_of c.args.architecture).bits ≡ Bits64 = sym c.argument_bits.ensures ∙ c.in-Bits64.is in
    rw whole (wide_put c.args.architecture vs c.requires.fine c.requires.some c.requires.code here
    c.in_ok-put_value_search.ensures c.args.half c.requires.halves place
    (c.requires.fine 0 some c.requires.some).index same bits (rw load at begin)
    (rw load at c.in_ok-put_branch-in-Bits64.ensures))
