use Rattle.std.proofs.Common.{rules, ◌≡◌, ◌++◌, ◌∷◌, []}
use Rattle.clap.specs.Walk.{rule_of}
use Rattle.command_words.specs.Grammar.{rule_said}
use Rattle.command_words.proofs.MadeLemmas.{one_more}
use Rattle.command_words.proofs.grammar.arguments_of.Goals as goal

pub loop-word-preserved : goal.loop-word-preserved
loop-word-preserved c =
    let pushed : c.push.new.self.items ≡ c.loop-word.arguments.items ++ c.in_ok-argument.field-0 ∷ [] = search rules in
    one_more rule_of rule_said c.loop-word.arguments.items c.push.new.self.items c.in_ok-argument.field-0 c.args.words.now c.loop-word.word-index _ (search rules)
    pushed c.loop-word.invariant c.in_ok-argument.ensures
