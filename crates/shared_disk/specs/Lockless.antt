-- The bytes that a look without a lock sees.
use Rattle.std.specs.Prelude.{List, ℕ}
use Rattle.journal_layout.specs.declared.shape.Half.{Half}
use Rattle.journal_layout.specs.declared.shape.Shape.{Shape}
use Rattle.shared_disk.specs.Outcome.{IsSeen}
use Rattle.shared_disk.specs.declared.watched.WatchedDisk as watched

-- Meanwhile these bytes were read of the superblock and of both halves, by a look that is taken. If the moments are those of an archive, they encode
-- the archive that the disk encoded at one of them (`WhatIsSeenIsAMoment`).
abbrev pub SeesMoment : {W : Type 0} → watched.Ghosts W → W → W → List ℕ → Type 0
SeesMoment g old new front = (shape : Shape) × (half : Half) × IsSeen (g.moments old) (g.reached old) (g.reached new) shape half front
