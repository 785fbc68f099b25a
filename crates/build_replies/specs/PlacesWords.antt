-- The meaning of the code's places of fronts.
use Rattle.std.specs.Prelude.{ℕ, List, map}
use Rattle.address_space.specs.Source.{ExecutableView}
use Rattle.build_replies.specs.PlaceWords.{front_in}
use Rattle.build_replies.specs.declared.places.FrontPlaces.{FrontPlaces}

-- the bytes of an image at these places
abbrev pub fronts_in : List ℕ → FrontPlaces → List ExecutableView
fronts_in image t = map (front_in image) t.list.items
