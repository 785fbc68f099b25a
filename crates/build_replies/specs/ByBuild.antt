-- The stored executable that belongs to a mapped file: the one that is stored under the name of its build, else the one under its path;
-- never a file of another build, nor a debug file (GDB, "Debugging Information in Separate Files").
use Rattle.std.specs.Prelude.{ℕ, ◌&&◌, not, if◌then◌else◌, Bool, true, false, List, [], ◌∷◌, find, is_none, Option, None, Some, codes}
use Rattle.std.specs.Option.{option_and_then}
use Rattle.std.specs.Str.{bytes_eq}
use Rattle.elf_view.specs.Sound.{first_fault}
use Rattle.elf_view.specs.declared.faults.Want.TheVariants.{Exec}
use Rattle.address_space.specs.Source.{ExecutableView, is_named}
use Rattle.build_ids.specs.BuildId.{build_id_of}
use Rattle.build_ids.specs.BuildName.{build_name, debug_name, has_name}
use Rattle.build_ids.specs.DebugFile.{debug_id_of, is_debug}

-- it is that ID
abbrev pub is_id : List ℕ → Option (List ℕ) → Bool
is_id id None = false
is_id id (Some own) = bytes_eq id own

-- an image has the build ID that a core gives for a file, if it gives one
abbrev pub has_told_id : Option (List ℕ) → List ℕ → Bool
has_told_id None image = true
has_told_id (Some id) image = is_id id (build_id_of image)

-- its headers have no fault
abbrev pub is_executable : List ℕ → Bool
is_executable image = is_none (first_fault Exec image)

-- An image may be the file that was mapped, for which a core gives that build ID,
-- or gives none: it is an executable, and no debug file, whose code has no bytes.
unfoldable pub agrees : Option (List ℕ) → List ℕ → Bool
agrees id image = is_executable image && (not (is_debug image) && has_told_id id image)

-- the executable of that name
abbrev pub stored_as : List ExecutableView → List ℕ → Option ExecutableView
stored_as stored name = find (is_named name) stored

abbrev pub if_agrees : Option (List ℕ) → Option ExecutableView → Option ExecutableView
if_agrees id None = None
if_agrees id (Some x) = if agrees id x.image then Some x else None

-- the one that is stored under the name of that build, if it is that build
abbrev pub build_stored : List ExecutableView → Option (List ℕ) → Option ExecutableView
build_stored stored None = None
build_stored stored (Some id) = if has_name id then if_agrees (Some id) (stored_as stored (build_name id)) else None

-- The stored executable for a mapped file: one that is used, under the name of its build or under its
-- path; one under its path that is not used, since it is of another build, has no build ID though the
-- core gives one, or is a debug file; or none. One whose headers have a fault does not count.
pub data Chosen : Type 0 where
  by_build : ExecutableView → Chosen
  by_path : ExecutableView → Chosen
  other : ExecutableView → Chosen
  none : Chosen

abbrev pub by_its_path : Option (List ℕ) → Option ExecutableView → Chosen
by_its_path id None = none
by_its_path id (Some x) = if agrees id x.image then by_path x else (if is_executable x.image then other x else none)

abbrev pub build_first : Option ExecutableView → Chosen → Chosen
build_first None c = c
build_first (Some x) c = by_build x

-- of the file of that name, for which the core gives that ID
unfoldable pub chosen : List ExecutableView → Option (List ℕ) → List ℕ → Chosen
chosen stored id path = build_first (build_stored stored id) (by_its_path id (stored_as stored path))

-- the executable, whether it is used or not
abbrev pub executable_of : Chosen → Option ExecutableView
executable_of (by_build x) = Some x
executable_of (by_path x) = Some x
executable_of (other x) = Some x
executable_of none = None

-- its build ID
abbrev pub chosen_id : Chosen → Option (List ℕ)
chosen_id k = option_and_then (λ (x : ExecutableView). build_id_of x.image) (executable_of k)

-- the executable, if it is used
abbrev pub used_executable : Chosen → Option ExecutableView
used_executable (by_build x) = Some x
used_executable (by_path x) = Some x
used_executable (other x) = None
used_executable none = None

-- the word for the way in which it was chosen
abbrev pub how_word : Chosen → List ℕ
how_word (by_build x) = codes "build"
how_word (by_path x) = codes "path"
how_word (other x) = codes "other"
how_word none = codes "none"

-- an executable under the name of a mapped file
abbrev pub as_file : List ℕ → ExecutableView → ExecutableView
as_file path x = record { path = path; image = x.image }

-- the executable that is used for the file of that name, if any
abbrev pub used_by : List ℕ → Chosen → List ExecutableView
used_by path (by_build x) = as_file path x ∷ []
used_by path (by_path x) = as_file path x ∷ []
used_by path (other x) = []
used_by path none = []

-- the executable under the file's path that is not used, if any
abbrev pub others_by : List ℕ → Chosen → List ExecutableView
others_by path (by_build x) = []
others_by path (by_path x) = []
others_by path (other x) = as_file path x ∷ []
others_by path none = []

-- An image is the debug file of the build of that ID. One whose headers have a fault has no ID.
abbrev pub is_debug_of : List ℕ → List ℕ → Bool
is_debug_of id image = is_id id (debug_id_of image)

abbrev pub if_debug_of : List ℕ → Option ExecutableView → Option ExecutableView
if_debug_of id None = None
if_debug_of id (Some x) = if is_debug_of id x.image then Some x else None

-- the one that is stored under the name of the debug file of that build, if it is that build's
abbrev pub debug_stored : List ExecutableView → Option (List ℕ) → Option ExecutableView
debug_stored stored None = None
debug_stored stored (Some id) = if has_name id then if_debug_of id (stored_as stored (debug_name id)) else None

-- The debug file of an executable: that of its build. Nothing else is compared.
abbrev pub debug_of_build : List ExecutableView → Option ExecutableView → Option ExecutableView
debug_of_build stored None = None
debug_of_build stored (Some x) = debug_stored stored (build_id_of x.image)

-- of the executable that is used, if one is
unfoldable pub debug_of : List ExecutableView → Chosen → Option ExecutableView
debug_of stored k = debug_of_build stored (used_executable k)

-- under the name of the mapped file
abbrev pub debug_by : List ℕ → Option ExecutableView → List ExecutableView
debug_by path None = []
debug_by path (Some d) = as_file path d ∷ []
