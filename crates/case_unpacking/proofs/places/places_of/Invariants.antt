use Rattle.std.proofs.Common.{map, take}
use Rattle.case_unpacking.specs.Places.{ArePlaces}
use Rattle.case_unpacking.specs.PlaceViews.{file_said, place_said}
use Rattle.case_unpacking.proofs.places.places_of.Given as goal

-- the places so far are those of the files that went by
abbrev pub invariant-loop-file : goal.invariant-loop-file
invariant-loop-file l = ArePlaces (map file_said (take l.file-index l.files)) (map place_said l.places.items)
