use Rattle.std.proofs.Common.{◌≡◌, map, take}
use Rattle.command_line.proofs.ask_words.AskedLine.words.Given as goal

abbrev pub invariant-loop-word : goal.invariant-loop-word
invariant-loop-word l = map (λ word. word.now) l.words.items ≡ map (λ word. word.now) (take l.word-index l.self.words.items)
