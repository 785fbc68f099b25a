use Rattle.std.proofs.Common.{rules, ◌≡◌, ◌++◌, ◌∷◌, [], ap}
use Rattle.clap.specs.Simple.{App, shape_of}
use Rattle.command_words.specs.Grammar.{shape_said}
use Rattle.command_words.proofs.MadeLemmas.{one_more}
use Rattle.command_words.proofs.grammar.subcommands_of.Goals as goal

pub loop-words-preserved : goal.loop-words-preserved
loop-words-preserved c =
    let pushed : c.push.new.self.items ≡ c.loop-words.subcommands.items ++ c.in_ok-command_of.field-0 ∷ [] = search rules in
    one_more shape_of (λ command. shape_said command.now) c.loop-words.subcommands.items c.push.new.self.items c.in_ok-command_of.field-0 c.args.commands.now c.loop-words.words-index _ (search rules)
    pushed c.loop-words.invariant (ap (λ (a : App). a.top) c.in_ok-command_of.ensures)
