use Rattle.scf_request.proofs.Common.{◌∙◌, ap₂, flag_rule, options_kept, rules_of_options, sym, with_rule}
use Rattle.scf_request.proofs.OptionLemmas.{rules_more}
use Rattle.scf_request.proofs.command_line.define.Goals as goal

pub loop-flag-preserved : goal.loop-flag-preserved
loop-flag-preserved c =
    c.in_ok-command-2.ensures.shape c.flag_argument.ensures.local
    ∙ ap₂ with_rule c.loop-flag.invariant c.flag_argument.ensures.rule
    ∙ sym (rules_more flag_rule (λ flag. flag.0.now) c.args.definition.now.name.now
    (rules_of_options (options_kept c.args.definition.now.options.now) c.args.definition.now.takes_reading)
    c.args.definition.now.flags.now c.loop-flag.flag-index _ c.loop-flag-test.true)
