use Rattle.std.proofs.Common.{◌≡◌, length}
use Rattle.build_ids.specs.BuildId as spec
use Rattle.build_ids.specs.Notes.{notes_in}
use Rattle.build_ids.proofs.ids.id_in.Given as goal

-- the build ID of all notes is that of those that are left
abbrev pub invariant-loop-note : goal.invariant-loop-note
invariant-loop-note l = spec.id_among (notes_in l.fn.padding l.fn.bytes) ≡ spec.id_among (notes_in l.padding l.rest)

abbrev pub decreases-loop-note : goal.decreases-loop-note
decreases-loop-note l = length l.rest
