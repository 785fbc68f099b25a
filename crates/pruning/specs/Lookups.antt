-- The look-ups in an archive by the lines about a core: executables and debug files, by their names.
use Rattle.std.specs.Prelude.{◌≡◌, ◌⊎◌, ℕ, Bool, true, not, ◌&&◌, if◌then◌else◌, List, find, Option, None, Some}
use Rattle.std.specs.Borrow.{Bor}
use Rattle.std.specs.Str.{bytes_eq}
use Rattle.build_ids.specs.BuildName.{IsNameOf, build_name, debug_name, has_name}
use Rattle.pruning.specs.Cases.{is_core, names, needs}
use Rattle.pruning.specs.declared.cases.LiveCase.{LiveCase}
use Rattle.pruning.specs.declared.cases.MappedFile.{MappedFile}

-- an executable, or a debug file, of that name
abbrev pub is_stored_as : List ℕ → LiveCase → Bool
is_stored_as name c = not (is_core c) && bytes_eq c.name.now name

-- the first of that name
abbrev pub stored_as : List LiveCase → List ℕ → Option LiveCase
stored_as cases name = find (is_stored_as name) cases

-- A line that asks a core may look for this name: that of a file that the core maps, or of a build that it needs, or of its debug file.
abbrev pub IsLookedUp : LiveCase → List ℕ → Type 0
IsLookedUp c name = (names name c ≡ true) ⊎ ((id : List ℕ) × (needs id c ≡ true) × IsNameOf id name)

-- one that passes a test
abbrev pub if_passes : (LiveCase → Bool) → Option LiveCase → Option LiveCase
if_passes passes None = None
if_passes passes (Some c) = if passes c then Some c else None

abbrev pub or_else : Option LiveCase → Option LiveCase → Option LiveCase
or_else None other = other
or_else (Some c) other = Some c

-- the executable under the name of a build, if there is an ID that has a name
abbrev pub by_build : List LiveCase → Option (Bor (List ℕ)) → Option LiveCase
by_build cases None = None
by_build cases (Some id) = if has_name id.now then stored_as cases (build_name id.now) else None

-- The executable that a mapped file has: the one under the name of its build, if it passes a test of its bytes, else the one under the
-- file's name.
abbrev pub chosen : (LiveCase → Bool) → List LiveCase → MappedFile → Option LiveCase
chosen passes cases f = or_else (if_passes passes (by_build cases f.told)) (stored_as cases f.name.now)

-- the debug file of a build, if there is an ID that has a name
abbrev pub debug_file : List LiveCase → Option (Bor (List ℕ)) → Option LiveCase
debug_file cases None = None
debug_file cases (Some id) = if has_name id.now then stored_as cases (debug_name id.now) else None
