use Rattle.std.proofs.Common.{◌≡◌, ◌++◌, drop, map}
use Rattle.std.specs.List.{flat_map}
use Rattle.command_words.specs.Lines.{joined, spaced}
use Rattle.command_words.proofs.line_texts.line_of.Given as goal

-- what was added, and the words that are left, are all
abbrev pub invariant-loop-word : goal.invariant-loop-word
invariant-loop-word l = l.line.items ++ flat_map spaced (map (λ word. word.now) (drop l.word-index l.others)) ≡ joined (map (λ word. word.now) l.words)
