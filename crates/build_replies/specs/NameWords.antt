-- The names under which the executables of a core's mapped files may be stored: their own, and those of their builds.
use Rattle.std.specs.Prelude.{ℕ, if◌then◌else◌, Bool, List, [], ◌∷◌, ◌++◌, map, Option, None, Some}
use Rattle.std.specs.List.{flat_map, list_any}
use Rattle.std.specs.Str.{bytes_eq}
use Rattle.arrayvec.specs.ArrayVec.{ArrayVec}
use Rattle.address_space.specs.Source.{ExecutableView}
use Rattle.build_ids.specs.BuildId.{build_id_of}
use Rattle.build_ids.specs.BuildName.{build_name, debug_name, has_name}
use Rattle.build_replies.specs.Builds.{NamedId}
use Rattle.build_replies.specs.Choosing.{choice_of}
use Rattle.build_replies.specs.TableWords.{path_of, table_rows}
use Rattle.build_replies.specs.declared.stored_names.StoredNames.{StoredNames}

-- the name of the build of that ID, if there is an ID, and it has one
abbrev pub name_of_build : Option (List ℕ) → List (List ℕ)
name_of_build None = []
name_of_build (Some id) = if has_name id then build_name id ∷ [] else []

abbrev pub builds_named : List NamedId → List (List ℕ)
builds_named told = flat_map (λ (t : NamedId). name_of_build t.1) told

abbrev pub file_name : NamedId → List ℕ
file_name t = t.0

-- all of them
abbrev pub stored_names : List NamedId → List (List ℕ)
stored_names told = map file_name told ++ builds_named told

-- it is one of these
abbrev pub is_one_of : List (List ℕ) → List ℕ → Bool
is_one_of names name = list_any (λ n. bytes_eq n name) names

-- the name of the debug file of an executable, if it has an ID, and that has one
abbrev pub name_of_debug : Option (List ℕ) → List (List ℕ)
name_of_debug None = []
name_of_debug (Some id) = if has_name id then debug_name id ∷ [] else []

abbrev pub debug_names : List ExecutableView → List (List ℕ)
debug_names used = flat_map (λ (x : ExecutableView). name_of_debug (build_id_of x.image)) used

-- the names of the debug files of the executables that are used for these mapped files
abbrev pub wanted_debugs : List NamedId → List ExecutableView → List (List ℕ)
wanted_debugs told stored = debug_names (choice_of told stored).used

-- the meaning of the code's names
abbrev pub name_bytes : ArrayVec ℕ → List ℕ
name_bytes n = n.items

abbrev pub names_in : StoredNames → List (List ℕ)
names_in s = map path_of (table_rows s.names)
