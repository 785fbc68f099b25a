-- The build IDs of a core of which not all bytes are at hand.
use Rattle.std.proofs.Common.{◌≡◌, ℕ, zero, suc, ◌+◌, List, [], ◌∷◌, ◌++◌, Option, None, Some, map, take, length, refl, sym, ap, ◌∙◌, arith}
use Rattle.std.specs.Prelude.{slice_get}
use Rattle.std.specs.Option.{option_map}
use Rattle.std.proofs.lemmas.List.{map-append, take_all}
use Rattle.elf_view.specs.Header.{SegmentView, segments_of}
use Rattle.elf_view.specs.NoteList.{NoteView}
use Rattle.elf_view.specs.ViewWords.{notes_of}
use Rattle.elf_view.specs.declared.faults.Want.TheVariants.{Core}
use Rattle.core_notes.specs.FileList.{FileView, files_of}
use Rattle.core_notes.specs.Typed.{first_desc}
use Rattle.address_space.specs.Source.{ExecutableView, Space}
use Rattle.address_space.specs.Whole.{IsFrontOf, space_in}
use Rattle.memory_replies.specs.Memory.{files_by, memory_of}
use Rattle.build_replies.specs.Builds.{NamedId, fronts_of, name_of, once, told_as, told_in, told_of, told_or_none}
use Rattle.build_replies.specs.Choosing.{told_files}
use Rattle.build_replies.specs.Mapped.{AreIdsFor, AreIdsOf, IsFoundOf, id_view, names_of}
use Rattle.build_replies.specs.PlacesWords.{fronts_in}
use Rattle.build_replies.specs.declared.ids.FrontId.{FrontId}
use Rattle.build_replies.specs.declared.mapped.MappedFiles.{MappedFiles}

-- the IDs for no name, and for one more name
pub ids_none : (image : List ℕ) (m : MappedFiles) (ids : List FrontId) → ids ≡ [] → AreIdsFor image m (take 0 (names_of m)) ids
ids_none image m ids none = ap (map id_view) none

next_name : (names : List (List ℕ)) (i : ℕ) (name : List ℕ) → slice_get names i ≡ Some name → take (i + 1) names ≡ take i names ++ name ∷ []
next_name [] i name is = cc
next_name (n ∷ names) zero name is = let same : n ≡ name = cc in ap (λ (m : List ℕ). m ∷ []) same
next_name (n ∷ names) (suc i) name is =
    let next : suc i + 1 ≡ suc (i + 1) = omega arith in
    ap (λ k. take k (n ∷ names)) next ∙ ap (λ (ms : List (List ℕ)). n ∷ ms) (next_name names i name is)

pub ids_more : (image : List ℕ) (m : MappedFiles) (i : ℕ) (name : List ℕ) (ids more : List FrontId) (one : FrontId) → AreIdsFor image m (take i (names_of m)) ids → slice_get (names_of m) i ≡ Some name
    → id_view one ≡ told_as (fronts_in image m.fronts) name → more ≡ ids ++ one ∷ [] → AreIdsFor image m (take (i + 1) (names_of m)) more
ids_more image m i name ids more one are at is after =
    let by = told_as (fronts_in image m.fronts) in
    ap (map id_view) after ∙ map-append id_view ids (one ∷ [])
    ∙ ap (λ (xs : List NamedId). xs ++ id_view one ∷ []) are
    ∙ ap (λ (x : NamedId). map by (take i (names_of m)) ++ x ∷ []) is
    ∙ sym (ap (map by) (next_name (names_of m) i name at) ∙ map-append by (take i (names_of m)) (name ∷ []))

pub ids_all : (image : List ℕ) (m : MappedFiles) (ids : List FrontId) → AreIdsFor image m (take (length (names_of m)) (names_of m)) ids → AreIdsOf image m ids
ids_all image m ids are = are ∙ ap (map (told_as (fronts_in image m.fronts))) (take_all (length (names_of m)) (names_of m) (omega arith))

-- the memory of an image, and of its first bytes
memory_by : List SegmentView → List FileView → Space
memory_by segments files = record { segments = segments; files = files; executables = [] }

pub memory_same : (front image : List ℕ) → notes_of Core front ≡ notes_of Core image → space_in image (memory_of front []) ≡ memory_of image []
unfolding memory_of memory_by
memory_same front image notes = ap (λ (ns : List NoteView). memory_by (segments_of image) (files_by (first_desc 0x46494c45 ns))) notes

-- the IDs that are found are those of the whole core
pub found_ids : (front image : List ℕ) (size : ℕ) (m : MappedFiles) (ids : List FrontId) → IsFrontOf front size image → notes_of Core front ≡ notes_of Core image → IsFoundOf front size (Some m) → AreIdsOf image m ids
    → Some (map id_view ids) ≡ told_of image
unfolding told_of
found_ids front image size m ids begins notes (desc, there, has) are =
    let files = files_of desc in
    let fronts = fronts_in image m.fronts in
    let memory = memory_of image [] in
    let own : fronts ≡ fronts_of memory files = has.fronts image begins ∙ ap (λ (space : Space). fronts_of space files) (memory_same front image notes) in
    ap (λ (vs : List NamedId). Some vs) are
    ∙ ap (λ (ns : List (List ℕ)). Some (map (told_as fronts) ns)) has.names
    ∙ ap (λ (fs : List ExecutableView). Some (map (told_as fs) (once (map name_of files)))) own
    ∙ ap (option_map (λ e. told_in memory (files_of e))) (sym there ∙ ap (first_desc 0x46494c45) notes)

-- and of a core without NT_FILE
pub missing_ids : (front image : List ℕ) (size : ℕ) → notes_of Core front ≡ notes_of Core image → IsFoundOf front size None → None ≡ told_of image
unfolding told_of
missing_ids front image size notes none = ap (option_map (λ e. told_in (memory_of image []) (files_of e))) (sym none ∙ ap (first_desc 0x46494c45) notes)

told_by : (b : List ℕ) (o : Option (List ℕ)) → told_in (memory_of b []) (files_by o) ≡ told_or_none (option_map (λ desc. told_in (memory_of b []) (files_of desc)) o)
unfolding once
told_by b None = refl
told_by b (Some desc) = refl

-- the mapped files are those of the note, if it is there
pub told_all : (b : List ℕ) → told_files b ≡ told_or_none (told_of b)
unfolding told_of
told_all b = told_by b (first_desc 0x46494c45 (notes_of Core b))
