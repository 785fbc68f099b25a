-- Builds that are wanted, put after others.
use Rattle.std.proofs.Common.{◌≡◌, ◌<◌, ℕ, Bool, false, true, not, cond, ◌+◌, List, [], ◌∷◌, ◌++◌, length, map, get_or, take, Option, None, Some, Vec, Global, refl, ap, sym, ◌∙◌}
use Rattle.std.specs.Prelude.{◌||◌}
use Rattle.std.proofs.lemmas.List.{map-append, take_more}
use Rattle.build_replies.specs.Builds.{NamedBuild}
use Rattle.build_replies.specs.BuildsWords.{with_build}
use Rattle.case_info.specs.Gathering.{FileValue, file_view, files_view}
use Rattle.case_info.specs.Wants.{wanted_of_file, with_all, with_each_core}
use Rattle.case_info.specs.declared.kept_files.KeptFile.{KeptFile}

-- one file more
all_more : (ws : List NamedBuild) (fs : List FileValue) (f : FileValue) → with_all ws (fs ++ f ∷ []) ≡ with_build (with_all ws fs) (wanted_of_file f)
unfolding with_all
all_more ws [] f = refl
all_more ws (h ∷ hs) f = all_more (with_build ws (wanted_of_file h)) hs f

pub all_none : (ws : List NamedBuild) → ws ≡ with_all ws []
unfolding with_all
all_none ws = refl

-- those that went by, and the next
pub next_all : (ws now new : List NamedBuild) (files : List KeptFile) (i : ℕ) (f : KeptFile) (o : Option NamedBuild) → i < length files → f ≡ get_or files i f → now ≡ with_all ws (map file_view (take i files))
    → o ≡ wanted_of_file (file_view f) → new ≡ with_build now o → new ≡ with_all ws (map file_view (take (i + 1) files))
next_all ws now new files i f o within is before wants puts =
    let next : map file_view (take (i + 1) files) ≡ map file_view (take i files) ++ file_view f ∷ [] =
    ap (map file_view) (take_more files i f within)
    ∙ map-append file_view (take i files) (get_or files i f ∷ [])
    ∙ ap (λ (y : KeptFile). map file_view (take i files) ++ file_view y ∷ []) (sym is) in
    puts ∙ ap (λ (vs : List NamedBuild). with_build vs o) before ∙ ap (with_build (with_all ws (map file_view (take i files)))) wants ∙ sym (all_more ws (map file_view (take i files)) (file_view f)) ∙ sym (ap (with_all ws) next)

-- one core more
cores_more : (ws : List NamedBuild) (cs : List (List FileValue)) (files : List FileValue) → with_each_core ws (cs ++ files ∷ []) ≡ with_all (with_each_core ws cs) files
unfolding with_each_core
cores_more ws [] files = refl
cores_more ws (c ∷ cs) files = cores_more (with_all ws c) cs files

pub cores_none : (ws : List NamedBuild) → ws ≡ with_each_core ws []
unfolding with_each_core
cores_none ws = refl

pub next_core : (ws now new : List NamedBuild) (cores : List (Vec KeptFile Global)) (i : ℕ) (v : Vec KeptFile Global) → i < length cores → v ≡ get_or cores i v → now ≡ with_each_core ws (map files_view (take i cores))
    → new ≡ with_all now (files_view v) → new ≡ with_each_core ws (map files_view (take (i + 1) cores))
next_core ws now new cores i v within is before puts =
    let next : map files_view (take (i + 1) cores) ≡ map files_view (take i cores) ++ files_view v ∷ [] =
    ap (map files_view) (take_more cores i v within)
    ∙ map-append files_view (take i cores) (get_or cores i v ∷ [])
    ∙ ap (λ (y : Vec KeptFile Global). map files_view (take i cores) ++ files_view y ∷ []) (sym is) in
    puts ∙ ap (λ (vs : List NamedBuild). with_all vs (files_view v)) before ∙ sym (cores_more ws (map files_view (take i cores)) (files_view v)) ∙ sym (ap (with_each_core ws) next)
