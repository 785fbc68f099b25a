use Rattle.std.proofs.Common.{◌≡◌, ◌++◌, drop, map}
use Rattle.case_listing.specs.Naming.{with_second}
use Rattle.case_listing.proofs.case_words.numbered.Given as goal

-- what was added, and the words that are left, are all
abbrev pub invariant-loop-word : goal.invariant-loop-word
invariant-loop-word l = map (λ word. word.now) l.line.items ++ map (λ word. word.now) (drop l.word-index l.others) ≡ with_second l.number (map (λ word. word.now) l.words)
