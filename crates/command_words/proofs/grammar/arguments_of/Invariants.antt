use Rattle.std.proofs.Common.{◌≡◌, map, take}
use Rattle.clap.specs.Walk.{rule_of}
use Rattle.command_words.specs.Grammar.{rule_said}
use Rattle.command_words.proofs.grammar.arguments_of.Given as goal

abbrev pub invariant-loop-word : goal.invariant-loop-word
invariant-loop-word l = map rule_of l.arguments.items ≡ map rule_said (take l.word-index l.words)
