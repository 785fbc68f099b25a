-- The places where the files of a core are unpacked. A place is a list of components, below the directory of the core.
use Rattle.std.specs.Prelude.{◌≡◌, ℕ, Bool, List, [], ◌∷◌, length, take, Option, None, Some, codes, decimal, if◌then◌else◌}
use Rattle.std.specs.List.{join_with_byte, list_all, list_any, slice_get, zip}
use Rattle.std.specs.Option.{option_map}
use Rattle.std.specs.Str.{bytes_eq}
use Rattle.case_unpacking.specs.Names.{components, plain_path}

-- a file by its name, and the number of the case whose image it is
pub record FileSaid : Type 0 where
  pub name : List ℕ
  pub case : ℕ

-- the place of a path without its first slash
abbrev pub below_root : List ℕ → List (List ℕ)
below_root path = codes "sysroot" ∷ components path

-- the place at which a debugger looks for a file of that name, if the name is plain
abbrev pub own_place : List ℕ → Option (List (List ℕ))
own_place name = option_map below_root (plain_path name)

-- the place of the image of a case if it can't be there
abbrev pub other_place : ℕ → List (List ℕ)
other_place case = codes "other" ∷ decimal case ∷ []

-- Their components are the same as far as both go: one of them is the other, or a directory on its path.
abbrev pub meet : List (List ℕ) → List (List ℕ) → Bool
meet p q = list_all (λ (c : List ℕ × List ℕ). bytes_eq c.0 c.1) (zip p q)

-- a place that meets none of those before
abbrev pub unless_met : List (List (List ℕ)) → ℕ → Option (List (List ℕ)) → List (List ℕ)
unless_met before case None = other_place case
unless_met before case (Some own) = if list_any (meet own) before then other_place case else own

-- the place of a file beside those that are taken
abbrev pub place_beside : List (List (List ℕ)) → FileSaid → List (List ℕ)
place_beside before f = unless_met before f.case (own_place f.name)

-- These are the places of the files: each is beside those before it.
pub record ArePlaces (files : List FileSaid) (places : List (List (List ℕ))) : Type 0 where
  pub count : length places ≡ length files
  pub each : (k : ℕ) (f : FileSaid) → slice_get files k ≡ Some f → slice_get places k ≡ Some (place_beside (take k places) f)

-- how a place is written
abbrev pub place_text : List (List ℕ) → List ℕ
place_text p = join_with_byte 47 p
