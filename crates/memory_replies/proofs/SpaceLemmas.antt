-- Executables that are attached, one more.
use Rattle.std.proofs.Common.{◌≡◌, ℕ, ◌+◌, ◌<◌, Bool, true, false, cond, List, [], ◌∷◌, ◌++◌, length, take, map, get_or, Option, None, Some, refl, sym, ap, ◌∙◌}
use Rattle.std.proofs.lemmas.List.{append-nil, take_more, map-append}
use Rattle.std.proofs.lemmas.List.Elements.{filter-append}
use Rattle.std.specs.List.{filter}
use Rattle.std.specs.Option.{is_none, option_map}
use Rattle.elf_view.specs.Header.{SegmentView, segments_of}
use Rattle.elf_view.specs.NoteList.{NoteView}
use Rattle.elf_view.specs.ViewWords.{image_of, notes_of}
use Rattle.elf_view.specs.declared.faults.Want.TheVariants.{Core}
use Rattle.elf_view.specs.declared.view.Elf.{Elf}
use Rattle.core_notes.specs.FileList.{FileView}
use Rattle.core_notes.specs.FileWords.{files_bytes}
use Rattle.core_notes.specs.Typed.{first_desc}
use Rattle.core_notes.specs.declared.file_list.Files.{Files}
use Rattle.address_space.specs.Source.{Space, ExecutableView}
use Rattle.address_space.specs.SpaceWords.{files_in, space_view}
use Rattle.memory_replies.specs.Attaching.{with_attached}
use Rattle.memory_replies.specs.Places.{has_symbols, known_among}
use Rattle.memory_replies.specs.Symbol.{executable_fault}
use Rattle.memory_replies.specs.Memory.{attached_view, files_by, is_attached, mapped_files, memory_of}
use Rattle.address_space.specs.declared.attached.Attached.{Attached}

-- the mapped files are those of the note
pub files_are : (files : Option Files) (desc : Option (List ℕ)) → option_map files_bytes files ≡ desc → files_in files ≡ files_by desc
files_are None desc is = ap files_by is
files_are (Some f) desc is = ap files_by is

pub mapped_are : (files : Option Files) (notes : List NoteView) (b : List ℕ) → option_map files_bytes files ≡ first_desc 0x46494c45 notes → notes ≡ notes_of Core b → files_in files ≡ mapped_files b
mapped_are files notes b desc own = files_are files (first_desc 0x46494c45 notes) desc ∙ ap (λ ns. files_by (first_desc 0x46494c45 ns)) own

space_by : List SegmentView → List FileView → Space
space_by segments files = record { segments = segments; files = files; executables = [] }

-- the memory of a core in which nothing is attached
pub plain_is : (elf : Elf) (files : Option Files) (notes : List NoteView) (b : List ℕ) → image_of elf ≡ b → option_map files_bytes files ≡ first_desc 0x46494c45 notes → notes ≡ notes_of Core b → space_view elf files [] ≡ memory_of b []
unfolding memory_of space_by
plain_is elf files notes b image desc own =
    ap (λ t. space_by (segments_of t) (files_in files)) image
    ∙ ap (space_by (segments_of b)) (mapped_are files notes b desc own)

space_with : List SegmentView → List FileView → List ExecutableView → Space
space_with segments files executables = record { segments = segments; files = files; executables = executables }

kept : (segments : List SegmentView) (files : List FileView) (xs : List ExecutableView) (x : ExecutableView) (t : Bool)
    → cond t (space_with segments files (xs ++ x ∷ [])) (space_with segments files xs) ≡ space_with segments files (xs ++ cond t (x ∷ []) [])
kept segments files xs x true = refl
kept segments files xs x false = ap (space_with segments files) (sym (append-nil xs))

pub one_attached : (b : List ℕ) (xs : List ExecutableView) (x : ExecutableView) → with_attached (memory_of b xs) x ≡ memory_of b (xs ++ x ∷ [])
unfolding memory_of space_with
one_attached b xs x =
    kept (segments_of b) (mapped_files b) (filter is_attached xs) x (is_attached x)
    ∙ ap (space_with (segments_of b) (mapped_files b)) (sym (filter-append is_attached xs (x ∷ [])))

-- those that went by, and the next
gone_by : (xs : List Attached) (i : ℕ) (d : Attached) (v : ExecutableView) → i < length xs → v ≡ attached_view (get_or xs i d)
    → map attached_view (take (i + 1) xs) ≡ map attached_view (take i xs) ++ v ∷ []
gone_by xs i d v within is =
    ap (map attached_view) (take_more xs i d within) ∙ map-append attached_view (take i xs) (get_or xs i d ∷ []) ∙ ap (λ (y : ExecutableView). map attached_view (take i xs) ++ y ∷ []) (sym is)

pub one_more : (b : List ℕ) (xs : List Attached) (i : ℕ) (d : Attached) (v : ExecutableView) (old new : Space) → i < length xs → v ≡ attached_view (get_or xs i d)
    → old ≡ memory_of b (map attached_view (take i xs)) → new ≡ with_attached old v
    → new ≡ memory_of b (map attached_view (take (i + 1) xs))
one_more b xs i d v old new within is before after =
    after ∙ ap (λ s. with_attached s v) before ∙ one_attached b (map attached_view (take i xs)) v ∙ ap (memory_of b) (sym (gone_by xs i d v within is))

pub one_named : (xs : List Attached) (i : ℕ) (d : Attached) (v : ExecutableView) (old new : List ExecutableView) → i < length xs → v ≡ attached_view (get_or xs i d)
    → old ≡ known_among (map attached_view (take i xs)) → new ≡ old ++ known_among (v ∷ [])
    → new ≡ known_among (map attached_view (take (i + 1) xs))
one_named xs i d v old new within is before after =
    after ∙ ap (λ (ys : List ExecutableView). ys ++ known_among (v ∷ [])) before ∙ sym (filter-append has_symbols (map attached_view (take i xs)) (v ∷ []))
    ∙ ap known_among (sym (gone_by xs i d v within is))

-- one with a fault names nothing
pub none_named : (x : ExecutableView) (reason : List ℕ) (old : List ExecutableView) → Some reason ≡ executable_fault x.image → old ≡ old ++ known_among (x ∷ [])
none_named x reason old fault = sym (append-nil old) ∙ ap (λ (o : Option (List ℕ)). old ++ cond (is_none o) (x ∷ []) []) fault
