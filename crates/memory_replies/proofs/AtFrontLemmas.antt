-- What the first bytes of a core show of its memory, where they are sound.
use Rattle.std.proofs.Common.{◌≡◌, ℕ, Bool, true, false, cond, List, [], ◌∷◌, length, map, filter, take, refl, ap, sym, subst, ◌∙◌}
use Rattle.elf_view.specs.Front.{headed}
use Rattle.elf_view.specs.Header.{SegmentView, is_load, segments_of}
use Rattle.elf_view.specs.Sound.{IsHeaderWhole, IsSound}
use Rattle.elf_view.specs.ViewWords.{notes_of}
use Rattle.elf_view.specs.declared.faults.Want.{Want}
use Rattle.elf_view.specs.declared.faults.Want.TheVariants.{Core}
use Rattle.core_notes.specs.FileList.{FileView}
use Rattle.core_notes.specs.Typed.{first_desc}
use Rattle.address_space.specs.Source.{ExecutableView, MappingView, Space, entry_at, mapping_in, mappings_of}
use Rattle.address_space.specs.Whole.{IsFrontOf, space_in}
use Rattle.image_replies.specs.CoreWords.{core_bytes}
use Rattle.image_replies.specs.declared.core_image.CoreImage.{CoreImage}
use Rattle.memory_replies.specs.Memory.{files_by, is_attached, mapped_files, memory_of}

memory_by : List SegmentView → List ExecutableView → List FileView → Space
memory_by segments executables files = record { segments = segments; files = files; executables = executables }

-- the memory of the image
pub memory_in : (f b : List ℕ) (xs : List ExecutableView) (space : Space) → space ≡ memory_of f xs → mapped_files f ≡ mapped_files b → space_in b space ≡ memory_of b xs
unfolding memory_of memory_by
memory_in f b xs space is files = ap (space_in b) is ∙ ap (memory_by (segments_of b) (filter is_attached xs)) files

-- its mapped files are the image's
pub files_of_memory : (f b : List ℕ) (xs : List ExecutableView) (space : Space) → space ≡ memory_of f xs → mapped_files f ≡ mapped_files b → space.files ≡ mapped_files b
unfolding memory_of
files_of_memory f b xs space is files = ap (λ (s : Space). s.files) is ∙ files

-- a memory of these, without executables
plain : List SegmentView → List FileView → Space
plain ss files = record { segments = ss; files = files; executables = [] }

kept : (f : SegmentView → MappingView) → ((s : SegmentView) → f s ≡ f (headed s)) → (t : Bool) (s : SegmentView) (xs ys : List SegmentView) → map f xs ≡ map f ys → map f (cond t (s ∷ xs) xs) ≡ map f (cond t (headed s ∷ ys) ys)
kept f h true s xs ys e = ap (λ m. m ∷ map f xs) (h s) ∙ ap (λ ms. f (headed s) ∷ ms) e
kept f h false s xs ys e = e

each_headed : (f : SegmentView → MappingView) → ((s : SegmentView) → f s ≡ f (headed s)) → (ss : List SegmentView) → map f (filter is_load ss) ≡ map f (filter is_load (map headed ss))
each_headed f h [] = refl
each_headed f h (s ∷ ss) = kept f h (is_load s) s (filter is_load ss) (filter is_load (map headed ss)) (each_headed f h ss)

headed_mapping : (files : List FileView) (xs : List SegmentView) (s : SegmentView) → mapping_in (plain xs files) s ≡ mapping_in (plain xs files) (headed s)
headed_mapping files xs s = refl

-- only the mapped files of a memory count for a mapping
by_files : (files : List FileView) (xs ys : List SegmentView) (es ds : List ExecutableView) (s : SegmentView)
    → mapping_in (memory_by xs es files) s ≡ mapping_in (memory_by ys ds files) s
unfolding memory_by entry_at
by_files files xs ys es ds s = refl

all_by_files : (files : List FileView) (xs ys : List SegmentView) (es ds : List ExecutableView) (ss : List SegmentView)
    → map (mapping_in (memory_by xs es files)) ss ≡ map (mapping_in (memory_by ys ds files)) ss
all_by_files files xs ys es ds [] = refl
all_by_files files xs ys es ds (s ∷ ss) =
    ap (λ m. m ∷ map (mapping_in (memory_by xs es files)) ss) (by_files files xs ys es ds s) ∙ ap (λ ms. mapping_in (memory_by ys ds files) s ∷ ms) (all_by_files files xs ys es ds ss)

mappings_same : (xs ys : List SegmentView) (files : List FileView) → map headed xs ≡ map headed ys → mappings_of (plain xs files) ≡ mappings_of (plain ys files)
unfolding mappings_of plain memory_by
mappings_same xs ys files same =
    each_headed (mapping_in (plain xs files)) (headed_mapping files xs) xs
    ∙ ap (λ ss. map (mapping_in (plain xs files)) (filter is_load ss)) same
    ∙ sym (each_headed (mapping_in (plain xs files)) (headed_mapping files xs) ys)
    ∙ all_by_files files xs ys [] [] (filter is_load ys)

made : (b : List ℕ) → memory_of b [] ≡ plain (segments_of b) (mapped_files b)
unfolding memory_of plain
made b = refl

-- the image has the mappings of its first bytes
pub mappings_in_front : (f b : List ℕ) → map headed (segments_of f) ≡ map headed (segments_of b) → notes_of Core f ≡ notes_of Core b → mappings_of (memory_of f []) ≡ mappings_of (memory_of b [])
mappings_in_front f b segments notes =
    let files : mapped_files f ≡ mapped_files b = ap (λ ns. files_by (first_desc 0x46494c45 ns)) notes in
    ap mappings_of (made f ∙ ap (plain (segments_of f)) files)
    ∙ mappings_same (segments_of f) (segments_of b) (mapped_files b) segments
    ∙ sym (ap mappings_of (made b))

-- executables change no mapping
pub mappings_alone : (b : List ℕ) (xs : List ExecutableView) → mappings_of (memory_of b xs) ≡ mappings_of (memory_of b [])
unfolding mappings_of memory_of memory_by
mappings_alone b xs = all_by_files (mapped_files b) (segments_of b) (segments_of b) (filter is_attached xs) [] (filter is_load (segments_of b))

module _ (core : CoreImage) (image : List ℕ) (size : ℕ) (begins : IsFrontOf (core_bytes core) size image) where
  pub whole_head : IsHeaderWhole (take (length (core_bytes core)) image)
  whole_head = subst IsHeaderWhole begins.1 core.elf.whole

  pub sound_front : IsSound Core (take (length (core_bytes core)) image)
  sound_front = subst (IsSound Core) begins.1 (subst (λ (w : Want). IsSound w (core_bytes core)) core.is_core core.elf.sound)

  -- the image has the mapped files of its first bytes
  pub files_in_front : ((x : List ℕ) (n : ℕ) → IsHeaderWhole (take n x) → IsSound Core (take n x) → mapped_files (take n x) ≡ mapped_files x) → mapped_files (core_bytes core) ≡ mapped_files image
  files_in_front law = ap mapped_files begins.1 ∙ law image (length (core_bytes core)) whole_head sound_front

  -- and its notes
  pub notes_in_front : ((want : Want) (b : List ℕ) (n : ℕ) → IsHeaderWhole (take n b) → IsSound want (take n b) → notes_of want (take n b) ≡ notes_of want b) → notes_of Core (core_bytes core) ≡ notes_of Core image
  notes_in_front law = ap (notes_of Core) begins.1 ∙ law Core image (length (core_bytes core)) whole_head sound_front
