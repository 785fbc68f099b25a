-- What is told of an image from its first bytes and a window of it.
use Rattle.std.proofs.Common.{◌≡◌, ◌≤◌, ℕ, ◌+◌, ◌-◌, List, length, take, drop, filter, ap, subst, ◌∙◌, arith}
use Rattle.std.proofs.lemmas.List.{drop-take, take-take, drop-drop}
use Rattle.elf_view.specs.Field.{part}
use Rattle.elf_view.specs.Header.{SegmentView, segments_of}
use Rattle.elf_view.specs.Sound.{IsHeaderWhole, IsSound}
use Rattle.elf_view.specs.declared.faults.Want.{Want}
use Rattle.elf_view.specs.declared.faults.Want.TheVariants.{Core}
use Rattle.core_notes.specs.FileList.{FileView}
use Rattle.address_space.specs.Source.{Space, ExecutableView}
use Rattle.address_space.specs.Whole.{IsFrontOf, space_in}
use Rattle.image_replies.specs.CoreWords.{core_bytes}
use Rattle.image_replies.specs.declared.core_image.CoreImage.{CoreImage}
use Rattle.memory_replies.specs.Memory.{is_attached, mapped_files, memory_of}
use Rattle.memory_replies.specs.Window.{IsPartOf}

part_within : (b : List ℕ) (o w p n : ℕ) → p + n ≤ w → part (part b o w) p n ≡ part b (o + p) n
part_within b o w p n h =
    let whole : w ≡ p + (w - p) = omega arith in
    ap (λ k. take n (drop p (take k (drop o b)))) whole
    ∙ ap (take n) (drop-take p (w - p) (drop o b))
    ∙ take-take n (w - p) (drop p (drop o b)) (omega arith)
    ∙ ap (take n) (drop-drop p o b)

-- bytes of a window are those of the image
pub read_is : (image : List ℕ) (at : ℕ) (window : List ℕ) (offset n : ℕ) (bytes : List ℕ) → IsPartOf image at window → at ≤ offset → offset + n ≤ at + length window → bytes ≡ part window (offset - at) n → bytes ≡ part image offset n
read_is image at window offset n bytes is low high read =
    let place : at + (offset - at) ≡ offset = omega (arith, low) in
    read
    ∙ ap (λ x. part x (offset - at) n) is
    ∙ part_within image at (length window) (offset - at) n (omega (arith, low, high))
    ∙ ap (λ k. part image k n) place

memory_by : List SegmentView → List ExecutableView → List FileView → Space
memory_by segments executables files = record { segments = segments; files = files; executables = executables }

-- the memory of the image
pub memory_in : (f b : List ℕ) (xs : List ExecutableView) (space : Space) → space ≡ memory_of f xs → mapped_files f ≡ mapped_files b → space_in b space ≡ memory_of b xs
unfolding memory_of memory_by
memory_in f b xs space is files = ap (space_in b) is ∙ ap (memory_by (segments_of b) (filter is_attached xs)) files

-- its mapped files are the image's
pub files_of_memory : (f b : List ℕ) (xs : List ExecutableView) (space : Space) → space ≡ memory_of f xs → mapped_files f ≡ mapped_files b → space.files ≡ mapped_files b
unfolding memory_of
files_of_memory f b xs space is files = ap (λ (s : Space). s.files) is ∙ files

-- the image has the mapped files of its first bytes
pub files_in_front : (core : CoreImage) (b : List ℕ) (size : ℕ) → IsFrontOf (core_bytes core) size b → ((x : List ℕ) (n : ℕ) → IsHeaderWhole (take n x) → IsSound Core (take n x) → mapped_files (take n x) ≡ mapped_files x)
    → mapped_files (core_bytes core) ≡ mapped_files b
files_in_front core b size front law =
    let f = core_bytes core in
    let sound : IsSound Core f = subst (λ (w : Want). IsSound w f) core.is_core core.elf.sound in
    ap mapped_files front.1 ∙ law b (length f) (subst IsHeaderWhole front.1 core.elf.whole) (subst (IsSound Core) front.1 sound)
