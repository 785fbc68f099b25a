-- The contents that are unpacked of a case: the executables by the names of
-- the files that they are used for, and the one of them that is the program.
use Rattle.std.specs.Prelude.{ℕ, ◌+◌, List, [], ◌∷◌, ◌++◌, drop, position, take, Option, None, Some}
use Rattle.std.specs.List.{flat_map, slice_get}
use Rattle.std.specs.Option.{option_and_then}
use Rattle.std.specs.Str.{bytes_eq}
use Rattle.case_info.specs.Unpacking.{UnpackedValue}
use Rattle.case_unpacking.specs.Places.{FileSaid}
use Rattle.case_unpacking.specs.declared.places.NamedCase.{NamedCase}

-- a file with the number of the executable that is used for it, if one is
abbrev pub said_with : List ℕ → Option ℕ → List FileSaid
said_with name None = []
said_with name (Some number) = (record { name = name; case = number }) ∷ []

-- those of these files for which one is used, in their order
abbrev pub files_said : List UnpackedValue → List FileSaid
files_said files = flat_map (λ (f : UnpackedValue). said_with f.name f.case) files

-- which of them is the program: the first that has its name
abbrev pub program_at : List NamedCase → Option (List ℕ) → Option ℕ
program_at files None = None
program_at files (Some name) = position (λ (f : NamedCase). bytes_eq f.name.now name) files

-- the item at an index, if there is one
abbrev pub at_index : {A : Type 0} → List A → Option ℕ → Option A
at_index xs index = option_and_then (slice_get xs) index

-- the others
abbrev pub but_index : {A : Type 0} → List A → Option ℕ → List A
but_index xs None = xs
but_index xs (Some i) = take i xs ++ drop (i + 1) xs
