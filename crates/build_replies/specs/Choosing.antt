-- Which of the executables that are stored are used for a core's mapped files: none of another build.
use Rattle.std.specs.Prelude.{ℕ, List, [], ◌∷◌, Option, None, Some}
use Rattle.std.specs.List.{flat_map}
use Rattle.address_space.specs.Source.{ExecutableView}
use Rattle.memory_replies.specs.Memory.{mapped_files, memory_of}
use Rattle.build_replies.specs.Builds.{NamedId, fronts_of, id_named, told_in}
use Rattle.build_replies.specs.ByBuild.{as_file, chosen, debug_by, debug_of, debug_of_build, others_by, stored_as, used_by}

-- for the mapped files, in their order
abbrev pub used_of : List ExecutableView → List NamedId → List ExecutableView
used_of stored told = flat_map (λ (t : NamedId). used_by t.0 (chosen stored t.1 t.0)) told

abbrev pub others_of : List ExecutableView → List NamedId → List ExecutableView
others_of stored told = flat_map (λ (t : NamedId). others_by t.0 (chosen stored t.1 t.0)) told

-- the debug files of those that are used
abbrev pub debugs_of : List ExecutableView → List NamedId → List ExecutableView
debugs_of stored told = flat_map (λ (t : NamedId). debug_by t.0 (debug_of stored (chosen stored t.1 t.0))) told

-- the executable under this name, if one is stored there, whatever its kind
abbrev pub if_stored : List ℕ → Option ExecutableView → List ExecutableView
if_stored name None = []
if_stored name (Some x) = as_file name x ∷ []

abbrev pub under_names : List ExecutableView → List (List ℕ) → List ExecutableView
under_names stored names = flat_map (λ name. if_stored name (stored_as stored name)) names

-- the debug files of these
abbrev pub debugs_under : List ExecutableView → List (List ℕ) → List ExecutableView
debugs_under stored names = flat_map (λ name. debug_by name (debug_of_build stored (stored_as stored name))) names

-- the executables that are used, those that are there and not used, and the debug files of those that are used, each under the name of
-- the mapped file
pub record Choice : Type 0 where
  pub used : List ExecutableView
  pub others : List ExecutableView
  pub debugs : List ExecutableView

abbrev pub choice_of : List NamedId → List ExecutableView → Choice
choice_of told stored = record { used = used_of stored told; others = others_of stored told; debugs = debugs_of stored told }

-- the fronts of a core's mapped files, as far as the core has them
abbrev pub core_fronts : List ℕ → List ExecutableView
core_fronts b = fronts_of (memory_of b []) (mapped_files b)

-- the build ID that a core gives for a file: that of the file's front
abbrev pub told_id : List ℕ → List ℕ → Option (List ℕ)
told_id b path = id_named (core_fronts b) path

-- the names of a core's mapped files, each with that ID
abbrev pub told_files : List ℕ → List NamedId
told_files b = told_in (memory_of b []) (mapped_files b)

-- of the executables that are stored
unfoldable pub choice_for : List ℕ → List ExecutableView → Choice
choice_for b stored = choice_of (told_files b) stored
