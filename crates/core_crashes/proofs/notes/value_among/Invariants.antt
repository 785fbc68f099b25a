use Rattle.std.proofs.Common.{◌≡◌}
use Rattle.core_notes.specs.DescriptorWords.{pairs_left}
use Rattle.core_crashes.specs.Notes.{value_among}
use Rattle.core_crashes.proofs.notes.value_among.Given as goal

-- the first of all is the first of those that are left
abbrev pub invariant-loop-pair : goal.invariant-loop-pair
invariant-loop-pair l = value_among l.kind (pairs_left l.fn.pairs) ≡ value_among l.kind (pairs_left l.rest)
