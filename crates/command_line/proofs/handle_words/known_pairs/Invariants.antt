use Rattle.std.proofs.Common.{List, ℕ, [], codes, drop, Bor}
use Rattle.command_line.specs.Requesting.{TakesPairs}
use Rattle.command_line.proofs.handle_words.known_pairs.Given as goal

-- whatever becomes of the pairs that are left, becomes of all
abbrev pub invariant-loop-pair : goal.invariant-loop-pair
invariant-loop-pair l =
    (whole : List ℕ) (left : List (Bor (List ℕ))) → TakesPairs l.line.items l.left_out.items (drop l.pair-index l.pairs) whole left → TakesPairs (codes "begin core 0") [] l.pairs whole left
