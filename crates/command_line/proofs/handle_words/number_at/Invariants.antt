use Rattle.std.proofs.Common.{ℕ, Option, drop}
use Rattle.command_line.specs.Requesting.{IsNumberAt}
use Rattle.command_line.proofs.handle_words.number_at.Given as goal

-- whatever number is found among the pairs that are left, is found among all
abbrev pub invariant-loop-pair : goal.invariant-loop-pair
invariant-loop-pair l = (found : Option ℕ) → IsNumberAt l.key (drop l.pair-index l.pairs) found → IsNumberAt l.key l.pairs found
