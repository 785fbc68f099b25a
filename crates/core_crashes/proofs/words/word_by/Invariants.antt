use Rattle.std.proofs.Common.{ℕ, List}
use Rattle.intake.specs.Parts.{Parts, state_of}
use Rattle.core_crashes.specs.CaseReading.{HasLength, HasPieces, IsOnlyRead}
use Rattle.core_crashes.proofs.words.word_by.Given as goal

-- the pieces are of the case's image, and the archive is only read
abbrev pub invariant-loop-round : goal.invariant-loop-round
invariant-loop-round g l = record {
  has : HasLength (state_of l.archive) l.seq l.size;
  reads : (start : Parts g.row.D.Denot) → IsOnlyRead g.D.Disk start l.initial.archive → IsOnlyRead g.D.Disk start l.archive;
  pieces : (start : Parts g.row.D.Denot) → IsOnlyRead g.D.Disk start l.initial.archive → HasPieces g.D.Disk start l.seq l.size l.front l.initial.pieces.items
      → HasPieces g.D.Disk start l.seq l.size l.front l.pieces.items;
}
