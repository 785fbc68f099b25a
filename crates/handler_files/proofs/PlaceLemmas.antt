-- Each counter has its place.
use Rattle.std.proofs.Common.{◌≡◌, ℕ, List, Option, Some, refl}
use Rattle.std.specs.List.{slice_get}
use Rattle.handler_files.specs.Counters.{counters, place}
use Rattle.handler_files.specs.declared.counters.Counter.{Counter}
use Rattle.handler_files.specs.declared.counters.Counter.TheVariants.{Stored, Cut, Kept, Dropped, Lost}
use Rattle.handler_files.specs.declared.reasons.Reason.{Reason}
use Rattle.handler_files.specs.declared.reasons.Reason.TheVariants.{Busy, File, Disk, Stopped, Damaged, NotAnArchive, UnknownVersion, OldVersion, SpaceFull, JournalFull, NumbersSpent, OutOfMemory, TooLong, Short, Burst, Limit, NameTaken, NulByte, Empty, BadLine, Other}

pub has_place : (counter : Counter) → slice_get counters (place counter) ≡ Some counter
unfolding counters
has_place Stored = refl
has_place Cut = refl
has_place Kept = refl
has_place Dropped = refl
has_place (Lost Busy) = refl
has_place (Lost File) = refl
has_place (Lost Disk) = refl
has_place (Lost Stopped) = refl
has_place (Lost Damaged) = refl
has_place (Lost NotAnArchive) = refl
has_place (Lost UnknownVersion) = refl
has_place (Lost OldVersion) = refl
has_place (Lost SpaceFull) = refl
has_place (Lost JournalFull) = refl
has_place (Lost NumbersSpent) = refl
has_place (Lost OutOfMemory) = refl
has_place (Lost TooLong) = refl
has_place (Lost Short) = refl
has_place (Lost Burst) = refl
has_place (Lost Limit) = refl
has_place (Lost NameTaken) = refl
has_place (Lost NulByte) = refl
has_place (Lost Empty) = refl
has_place (Lost BadLine) = refl
has_place (Lost Other) = refl
