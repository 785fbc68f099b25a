-- Laws of places.
use Rattle.std.specs.Prelude.{◌≡◌, ◌≢◌, ◌⊎◌, ℕ, ◌<◌, ◌^◌, true, false, ◌||◌, ◌==◌, List, [], ◌∷◌, ◌++◌, length, Option, Some, codes}
use Rattle.std.specs.List.{list_all, slice_get}
use Rattle.case_unpacking.specs.Names.{is_component, is_plain_byte}
use Rattle.case_unpacking.specs.Places.{ArePlaces, FileSaid, meet, other_place, own_place, place_text}

-- `sysroot` or `other`, and behind it one component or more, each of one to 255 plain bytes and neither `.` nor `..`
pub record IsInside (p : List (List ℕ)) : Type 0 where
  pub below : List (List ℕ)
  pub root : (p ≡ codes "sysroot" ∷ below) ⊎ (p ≡ codes "other" ∷ below)
  pub some : 0 < length below
  pub components : list_all is_component below ≡ true

-- Each place is inside, and is written with plain bytes and slashes.
abbrev pub PlacesAreInside : Type 0
PlacesAreInside = (files : List FileSaid) (places : List (List (List ℕ))) → ArePlaces files places
    → (k : ℕ) (f : FileSaid) (p : List (List ℕ)) → slice_get files k ≡ Some f → slice_get places k ≡ Some p → f.case < 2 ^ 32
    → IsInside p × (list_all (λ b. b == 47 || is_plain_byte b) (place_text p) ≡ true)

-- two files that are one image: of one case, and both at the place for images whose names can't be places
pub record AreOneImage (f g : FileSaid) (p q : List (List ℕ)) : Type 0 where
  pub case : g.case ≡ f.case
  pub first : p ≡ other_place f.case
  pub second : q ≡ other_place f.case

-- No place is the place of a second file, or a directory on its path, except if both are of one case and in `other`.
abbrev pub PlacesAreApart : Type 0
PlacesAreApart = (files : List FileSaid) (places : List (List (List ℕ))) → ArePlaces files places
    → (j k : ℕ) (f g : FileSaid) (p q more : List (List ℕ)) → j ≢ k
    → slice_get files j ≡ Some f → slice_get places j ≡ Some p → slice_get files k ≡ Some g → slice_get places k ≡ Some q
    → f.case < 2 ^ 32 → g.case < 2 ^ 32 → q ≡ p ++ more → AreOneImage f g p q

-- A plain name is its own place, if that meets no place of a plain name before.
abbrev pub PlainNamesAreKept : Type 0
PlainNamesAreKept = (files : List FileSaid) (places : List (List (List ℕ))) → ArePlaces files places
    → (k : ℕ) (f : FileSaid) (own : List (List ℕ)) → slice_get files k ≡ Some f → own_place f.name ≡ Some own
    → ((j : ℕ) (g : FileSaid) (other : List (List ℕ)) → j < k → slice_get files j ≡ Some g → own_place g.name ≡ Some other → meet own other ≡ false)
    → slice_get places k ≡ Some own
