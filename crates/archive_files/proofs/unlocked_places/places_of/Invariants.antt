use Rattle.archive_files.specs.UnlockedPlaces.{CoversCases}
use Rattle.archive_files.proofs.unlocked_places.places_of.Given as goal

-- the cases that were considered
abbrev pub invariant-loop-entry : goal.invariant-loop-entry
invariant-loop-entry g l = CoversCases g.D.Disk l.fn.archive l.places.numbers.items l.places.ranges.items
