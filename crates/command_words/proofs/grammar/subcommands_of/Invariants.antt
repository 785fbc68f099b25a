use Rattle.std.proofs.Common.{◌≡◌, map, take}
use Rattle.clap.specs.Simple.{shape_of}
use Rattle.command_words.specs.Grammar.{shape_said}
use Rattle.command_words.proofs.grammar.subcommands_of.Given as goal

abbrev pub invariant-loop-words : goal.invariant-loop-words
invariant-loop-words l = map shape_of l.subcommands.items ≡ map (λ command. shape_said command.now) (take l.words-index l.commands)
