use Rattle.std.proofs.Common.{◌≤◌, ◌-◌, ℕ, List, length}
use Rattle.intake.specs.Parts.{Parts, state_of}
use Rattle.seen_memory.specs.Parts.{IsPartOf}
use Rattle.case_queries.specs.Fronts.{HasSize}
use Rattle.case_queries.specs.Pieces.{BeginsWith, HasMore, SeesPieces}
use Rattle.case_queries.proofs.builds.read_id.Given as goal

-- these pieces are read, and the first bytes of the front are gathered
abbrev pub invariant-loop-id : goal.invariant-loop-id
invariant-loop-id g l = record {
  has : HasSize (state_of l.archive) l.image.seq l.image.size;
  few : length l.bytes.items ≤ l.front.count;
  more : HasMore l.image l.initial.pieces.items l.pieces.items;
  sees : (before : Parts g.row.D.Denot) → SeesPieces g.D.Disk before l.image l.initial.pieces.items l.initial.archive → SeesPieces g.D.Disk before l.image l.pieces.items l.archive;
  gathered : (b : List ℕ) → BeginsWith l.image l.pieces.items b → IsPartOf b l.front.start l.bytes.items;
}

abbrev pub decreases-loop-id : goal.decreases-loop-id
decreases-loop-id g l = l.front.count - length l.bytes.items
