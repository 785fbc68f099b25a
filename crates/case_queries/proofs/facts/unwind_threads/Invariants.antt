use Rattle.std.proofs.Common.{◌≡◌, length}
use Rattle.build_replies.specs.Mapped.{told_view}
use Rattle.intake.specs.Parts.{Parts, state_of}
use Rattle.case_queries.specs.Facts.{AreFramesOf}
use Rattle.case_queries.specs.Fronts.{HasSize}
use Rattle.case_queries.specs.Pieces.{SeesPieces}
use Rattle.case_queries.specs.Preparing.{prepared_views}
use Rattle.case_queries.specs.Unwound.{BeginsWalks}
use Rattle.case_queries.proofs.facts.unwind_threads.Given as goal

-- the frames of the threads that went by, and what those of the others stand on
abbrev pub invariant-loop-thread : goal.invariant-loop-thread
invariant-loop-thread g l = record {
  has : HasSize (state_of l.archive) l.image.seq l.image.size;
  walks : BeginsWalks l.image (prepared_views l.prepared) l.found;
  pieces : l.found.pieces.items ≡ l.fn.told.pieces.items;
  sees : (before : Parts g.row.D.Denot) → SeesPieces g.D.Disk before l.image l.fn.told.pieces.items l.initial.archive → SeesPieces g.D.Disk before l.image l.fn.told.pieces.items l.archive;
  told : (before : Parts g.row.D.Denot) → SeesPieces g.D.Disk before l.image l.fn.told.pieces.items l.initial.archive
      → AreFramesOf g.D.Disk before l.image.seq l.image.front.now l.image.size (told_view l.fn.told.files) (prepared_views l.prepared) l.lines 0 l.all.items;
  count : length l.all.items ≡ l.thread;
}
