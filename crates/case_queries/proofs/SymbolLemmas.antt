-- What debug files are read for: the debug file of an executable, of the files that were read, and `at` and `bt` by build.
use Rattle.std.proofs.Common.{◌≡◌, ℕ, true, false, List, [], ◌∷◌, map, cond, Option, Some, Result, refl, ap, ◌∙◌}
use Rattle.std.specs.Prelude.{find}
use Rattle.std.specs.Option.{option_map}
use Rattle.address_space.specs.Source.{ExecutableView}
use Rattle.build_ids.specs.BuildId.{build_id_of}
use Rattle.build_replies.specs.ByBuild.{is_debug_of}
use Rattle.case_queries.specs.CollectingWords.{executable_view}
use Rattle.case_queries.specs.Inspecting.{by_debugs, debug_image, debug_of_build}
use Rattle.script_lines.specs.Queries.{memory_query}
use Rattle.script_lines.specs.declared.query.MemoryQuery.{MemoryQuery}
use Rattle.script_lines.specs.declared.query.MemoryQuery.TheVariants.{Dump, At, Find, Strings, Backtrace, Unwind, Lines, Frame, Builds}
use Rattle.case_queries.specs.declared.collect_executables.StoredExecutable.{StoredExecutable}

-- the image of the one that is found
found_image : (id : List ℕ) (files : List StoredExecutable)
    → option_map (λ (x : StoredExecutable). x.image.items) (find (λ (x : StoredExecutable). is_debug_of id x.image.items) files) ≡ option_map (λ (x : ExecutableView). x.image) (debug_of_build (Some id) (map executable_view files))
found_image id [] = refl
found_image id (x ∷ xs) =
    elim (is_debug_of id x.image.items) as (λ t. option_map (λ (y : StoredExecutable). y.image.items) (cond t (Some x) (find (λ (y : StoredExecutable). is_debug_of id y.image.items) xs))
    ≡ option_map (λ (y : ExecutableView). y.image) (cond t (Some (executable_view x)) (find (λ (y : ExecutableView). is_debug_of id y.image) (map executable_view xs)))) [
      | true ↦ refl
      | false ↦ found_image id xs
    ]

-- what is found is the debug file of the executable with that ID
pub found_debug : (image id : List ℕ) (files : List StoredExecutable) (o : Option StoredExecutable) → Some id ≡ build_id_of image → o ≡ find (λ (x : StoredExecutable). is_debug_of id x.image.items) files
    → option_map (λ (x : StoredExecutable). x.image.items) o ≡ debug_image image (map executable_view files)
found_debug image id files o own is =
    ap (option_map (λ (x : StoredExecutable). x.image.items)) is ∙ found_image id files
    ∙ ap (λ (i : Option (List ℕ)). option_map (λ (x : ExecutableView). x.image) (debug_of_build i (map executable_view files))) own

-- any line but `at` and `bt` is answered as it is
pub as_it_is : (q : MemoryQuery) → ((address : ℕ) → q ≡ At address → ⊥) → ((thread : ℕ) → q ≡ Backtrace thread → ⊥) → (b : List ℕ) (xs debugs : List ExecutableView) (answer : Result (List ℕ) (List ℕ)) → by_debugs (memory_query q) b xs debugs answer ≡ answer
as_it_is (Dump first n) place other b xs debugs answer = refl
as_it_is (At address) place other b xs debugs answer = absurd (place address refl)
as_it_is (Find needle) place other b xs debugs answer = refl
as_it_is (Strings least) place other b xs debugs answer = refl
as_it_is (Backtrace thread) place other b xs debugs answer = absurd (other thread refl)
as_it_is (Unwind thread) place other b xs debugs answer = refl
as_it_is (Lines thread) place other b xs debugs answer = refl
as_it_is (Frame thread frame) place other b xs debugs answer = refl
as_it_is (Builds query) place other b xs debugs answer = refl
