use Rattle.std.proofs.Common.{Some, ap, ◌∙◌}
use Rattle.clap.specs.Simple.{new_rule}
use Rattle.clap.specs.Walk.{Rule, rule_of}
use Rattle.clap.specs.declared.builder.action.ArgAction.{ArgAction}
use Rattle.command_words.proofs.grammar.begun.Goals as goal

pub returns : goal.returns
returns c =
    ap rule_of c.action.ensures
    ∙ (ap (λ (r : Rule). record r { action = Some c.action_of.result }) (ap rule_of c.help.ensures ∙ c.new.ensures.rule)
    ∙ ap (λ (action : ArgAction). record (new_rule c.args.word.now.id.now) { action = Some action }) c.action_of.ensures)
