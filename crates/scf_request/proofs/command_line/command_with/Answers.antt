use Rattle.scf_request.proofs.Common.{[], ◌∙◌, ap₂, option_of, option_rule, sym, with_rule}
use Rattle.scf_request.proofs.OptionLemmas.{rules_more}
use Rattle.scf_request.proofs.command_line.command_with.Goals as goal

pub loop-option-preserved : goal.loop-option-preserved
loop-option-preserved c =
    c.in_ok-command.ensures.shape c.argument_of.ensures.local
    ∙ ap₂ with_rule c.loop-option.invariant c.argument_of.ensures.rule
    ∙ sym (rules_more option_rule option_of c.args.definition.now.name.now [] c.args.definition.now.options.now
    c.loop-option.option-index _ c.loop-option-test.true)
