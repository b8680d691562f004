use Rattle.scf_compile.proofs.Common.{auto_rules, ◌≡◌, ◌∷◌, length, load_word}
use Rattle.scf_compile.proofs.Gates.{gate_put}
use Rattle.scf_compile.proofs.dispatch.put_gate.Goals as goal

pub returns : goal.returns
returns c =
    let load : c.push_front.new.self.items ≡ load_word 0 ∷ c.put_tests.new.code.items = search auto_rules in
    let here : c.len.result ≡ length c.push_front.new.self.items = search auto_rules in
    gate_put c.args.searches.now (record { 0 = c.len.result }) c.requires.some c.in_ok-put_tests.ensures load here
