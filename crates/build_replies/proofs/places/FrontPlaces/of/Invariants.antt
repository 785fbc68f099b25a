use Rattle.std.proofs.Common.{◌≡◌, ◌++◌, ℕ, List}
use Rattle.address_space.specs.SpaceWords.{core_of, space_of}
use Rattle.address_space.specs.Whole.{IsFrontOf, space_in}
use Rattle.core_notes.specs.FileList.{files_of}
use Rattle.core_notes.specs.FileWords.{files_bytes, files_left}
use Rattle.build_replies.specs.Builds.{fronts_of}
use Rattle.build_replies.specs.PlacesWords.{fronts_in}
use Rattle.build_replies.proofs.places.FrontPlaces.of.Given as goal

-- the fronts of all are those that are placed and those that are left
abbrev pub invariant-loop-map : goal.invariant-loop-map
invariant-loop-map l = record {
  can_next : goal.iterator-loop-map.can_next l.map-iterator;
  is_finite : goal.iterator-loop-map.is_finite l.map-iterator;
  size : l.places.size ≡ l.size;
  so_far : (image : List ℕ) → IsFrontOf (core_of l.space) l.size image
      → fronts_of (space_in image (space_of l.space)) (files_of (files_bytes l.files)) ≡ fronts_in image l.places ++ fronts_of (space_in image (space_of l.space)) (files_left l.map-iterator);
}
