use Rattle.scf_profile.specs.declared.named_call.NamedCall.{NamedCall}
use Rattle.scf_tool.proofs.Common.{ap, arith, length, refl, take_more, texts_at, ◌<◌, ◌∙◌}
use Rattle.scf_tool.proofs.PlanLemmas.{found_so_far}
use Rattle.std.proofs.lemmas.Slice.Zip.{all_zipped_more}
use Rattle.scf_tool.specs.JointFindings.{IsNamedAs}
use Rattle.scf_tool.proofs.findings.named_findings.Goals as goal

pub loop-i-preserved : goal.loop-i-preserved
loop-i-preserved c =
    let inside : c.loop-i.i < length c.args.findings.now = omega (arith, c.requires, c.loop-i-test.true) in
    record {
      named = rw (take_more _ _ c.index-calls-i.result c.loop-i-test.true, c.in_ok-push.ensures.items)
          (all_zipped_more IsNamedAs _ _ _ _ c.loop-i.invariant.named (
            let is = c.index-calls-i.is in cc,
            c.in_ok-owned_texts.ensures
                ∙ ap texts_at (c.deref.ensures.value ∙ ap (λ (call : NamedCall). call.names.items) c.index-calls-i.is),
          ));
      found = found_so_far c.args.findings.now c.loop-i.i _ _ _ _ inside c.loop-i.invariant.found
          c.in_ok-push.ensures.items refl;
    }
