-- The places and files of the code, as the definitions have them.
use Rattle.std.specs.Prelude.{ℕ, List}
use Rattle.case_unpacking.specs.Places.{FileSaid, below_root, other_place}
use Rattle.case_unpacking.specs.declared.places.NamedCase.{NamedCase}
use Rattle.case_unpacking.specs.declared.places.Place.{Place}
use Rattle.case_unpacking.specs.declared.places.Place.TheVariants.{Own, Other}

abbrev pub file_said : NamedCase → FileSaid
file_said f = record { name = f.name.now; case = f.case }

abbrev pub place_said : Place → List (List ℕ)
place_said (Own path) = below_root path.now
place_said (Other case) = other_place case
