use Rattle.scf_compile.proofs.Common.{auto_rules, ◌≡◌, ◌∷◌, length, load_word}
use Rattle.scf_compile.proofs.Gates.{gated}
use Rattle.scf_compile.proofs.dispatch.put_only_gate.Goals as goal

pub returns : goal.returns
returns c =
    let load : c.push_front.new.self.items ≡ load_word 0 ∷ c.args.code.now.items = search auto_rules in
    let here : c.len.result ≡ length c.push_front.new.self.items = search auto_rules in
    let whole : c.push_front-2.new.self.items ≡ load_word 1 ∷ c.put_branch.new.code.items = search auto_rules in
    gated c.args.audit (record { 0 = c.len.result }) c.requires.some load here c.in_ok-foreign.ensures
    c.in_ok-put_branch.ensures whole
