use Rattle.std.proofs.Common.{◌≡◌, ℕ, List, length}
use Rattle.address_space.specs.SpaceWords.{space_of}
use Rattle.address_space.specs.Whole.{space_in}
use Rattle.intake.specs.Parts.{state_of}
use Rattle.core_crashes.specs.CaseReading.{AreWords, HasLength, HasPieces, IsImageOf, IsOnlyRead}
use Rattle.core_crashes.proofs.words.words_in_case.Given as goal

-- the words so far are those of the memory, and the archive is only read
abbrev pub invariant-loop-index : goal.invariant-loop-index
invariant-loop-index g l = record {
  has : HasLength (state_of l.archive) l.seq l.size;
  reads : IsOnlyRead g.D.Disk l.initial.archive l.archive;
  pieces : HasPieces g.D.Disk l.initial.archive l.seq l.size l.front l.pieces.items;
  number : length l.words.items ≡ l.index;
  told : (image : List ℕ) → IsImageOf g.D.Disk l.initial.archive l.seq l.size l.front image → AreWords (space_in image (space_of l.space)) l.first l.words.items;
}
