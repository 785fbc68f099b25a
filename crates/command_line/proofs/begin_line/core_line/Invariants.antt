use Rattle.std.proofs.Common.{ℕ, List, codes, map, drop}
use Rattle.command_line.specs.Requesting.{IsJoined}
use Rattle.command_line.proofs.begin_line.core_line.Given as goal

-- whatever the pairs that are left make of the line, all make of its front
abbrev pub invariant-loop-pair : goal.invariant-loop-pair
invariant-loop-pair l =
    (whole : List ℕ) → IsJoined l.escapes l.line.items (map (λ p. p.now) (drop l.pair-index l.pairs)) whole → IsJoined l.escapes (codes "begin core 0") (map (λ p. p.now) l.pairs) whole
