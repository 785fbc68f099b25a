use Rattle.std.proofs.Common.{◌≤◌, length}
use Rattle.intake.specs.Parts.{Parts, state_of}
use Rattle.case_queries.specs.FrontIds.{StaysGathered}
use Rattle.case_queries.specs.Fronts.{HasSize}
use Rattle.case_queries.specs.Pieces.{HasMore, SeesPieces}
use Rattle.case_queries.proofs.builds.gather_read.Given as goal

-- these pieces are read, and the bytes are gathered as far as they lead
abbrev pub invariant-loop-count : goal.invariant-loop-count
invariant-loop-count g l = record {
  has : HasSize (state_of l.archive) l.image.seq l.image.size;
  few : length l.bytes.items ≤ l.count;
  more : HasMore l.image l.initial.pieces.items l.pieces.items;
  sees : (before : Parts g.row.D.Denot) → SeesPieces g.D.Disk before l.image l.initial.pieces.items l.initial.archive → SeesPieces g.D.Disk before l.image l.pieces.items l.archive;
  stays : StaysGathered l.image l.pieces.items l.start l.initial.bytes.items l.bytes.items;
}
