use Rattle.std.proofs.Common.{ap, ◌∙◌}
use Rattle.clap.specs.Simple.{app_of_fields}
use Rattle.command_words.proofs.CommandLemmas.{command_made}
use Rattle.command_words.proofs.grammar.command_of.Goals as goal

pub returns-in-Some : goal.returns-in-Some
returns-in-Some c =
    ap app_of_fields c.after_help.ensures
    ∙ command_made c.args.words.now c.in_ok-arguments.arguments.items c.about.result c.in_ok-command.command (ap app_of_fields c.about.ensures ∙ c.new.ensures.app) c.in_ok-arguments.ensures c.in_ok-command.ensures

pub returns-in-None : goal.returns-in-None
returns-in-None c =
    command_made c.args.words.now c.in_ok-arguments.arguments.items c.about.result c.in_ok-command.command (ap app_of_fields c.about.ensures ∙ c.new.ensures.app) c.in_ok-arguments.ensures c.in_ok-command.ensures
