use Rattle.std.proofs.Common.{◌≡◌, ℕ, List, length, take}
use Rattle.build_replies.specs.Mapped.{AreIdsFor, names_of}
use Rattle.intake.specs.Parts.{Parts, state_of}
use Rattle.case_queries.specs.Fronts.{HasSize}
use Rattle.case_queries.specs.Pieces.{BeginsWith, HasMore, SeesPieces}
use Rattle.case_queries.proofs.told.read_ids.Given as goal

-- these pieces are read, and the IDs are those of the names that went by
abbrev pub invariant-loop-i : goal.invariant-loop-i
invariant-loop-i g l = record {
  all : l.i-end ≡ length (names_of l.mapped);
  has : HasSize (state_of l.archive) l.image.seq l.image.size;
  more : HasMore l.image l.initial.pieces.items l.pieces.items;
  sees : (before : Parts g.row.D.Denot) → SeesPieces g.D.Disk before l.image l.initial.pieces.items l.initial.archive → SeesPieces g.D.Disk before l.image l.pieces.items l.archive;
  so_far : (b : List ℕ) → BeginsWith l.image l.pieces.items b → AreIdsFor b l.mapped (take l.i (names_of l.mapped)) l.ids.items;
}
