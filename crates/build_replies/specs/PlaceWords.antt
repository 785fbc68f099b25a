-- The meaning of the code's place of a front.
use Rattle.std.specs.Prelude.{◌≤◌, ℕ, ◌+◌, List}
use Rattle.elf_view.specs.Field.{part}
use Rattle.address_space.specs.Source.{ExecutableView}
use Rattle.build_replies.specs.declared.places.FrontPlace.{FrontPlace}

-- these bytes are the front of the file of that name
abbrev pub front_by : List ℕ → List ℕ → ExecutableView
front_by path bytes = record { path = path; image = bytes }

-- the bytes of an image at this place
abbrev pub front_in : List ℕ → FrontPlace → ExecutableView
front_in image p = front_by p.path.now (part image p.start p.count)

-- an image of that size has all of it
abbrev pub EndsWithin : ℕ → FrontPlace → Type 0
EndsWithin size p = p.start + p.count ≤ size
