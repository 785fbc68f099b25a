-- The mappings that the first bytes of a core show, where they are sound.
use Rattle.std.proofs.Common.{◌≡◌, ℕ, Bool, true, false, cond, List, [], ◌∷◌, map, filter, Ok, refl, ap, sym, ◌∙◌}
use Rattle.std.specs.List.{flat_map}
use Rattle.std.specs.Option.{option_map}
use Rattle.elf_view.specs.Front.{headed}
use Rattle.elf_view.specs.Header.{SegmentView, is_load, segments_of}
use Rattle.elf_view.specs.ViewWords.{notes_of}
use Rattle.elf_view.specs.declared.faults.Want.TheVariants.{Core}
use Rattle.core_notes.specs.FileList.{FileView}
use Rattle.core_notes.specs.Typed.{first_desc}
use Rattle.address_space.specs.Source.{MappingView, Space, entry_at, mapping_in, mappings_of}
use Rattle.image_replies.specs.Core.{core_fault_of}
use Rattle.image_replies.specs.Lines.{in_core, unless}
use Rattle.image_replies.specs.Reasons.{core_reason}
use Rattle.memory_replies.specs.Maps.{maps_answer, mapping_line}
use Rattle.memory_replies.specs.Memory.{files_by, mapped_files, memory_of}

-- a memory of these
space : List SegmentView → List FileView → Space
space ss files = record { segments = ss; files = files; executables = [] }

kept : (f : SegmentView → MappingView) → ((s : SegmentView) → f s ≡ f (headed s)) → (t : Bool) (s : SegmentView) (xs ys : List SegmentView) → map f xs ≡ map f ys → map f (cond t (s ∷ xs) xs) ≡ map f (cond t (headed s ∷ ys) ys)
kept f h true s xs ys e = ap (λ m. m ∷ map f xs) (h s) ∙ ap (λ ms. f (headed s) ∷ ms) e
kept f h false s xs ys e = e

each_headed : (f : SegmentView → MappingView) → ((s : SegmentView) → f s ≡ f (headed s)) → (ss : List SegmentView) → map f (filter is_load ss) ≡ map f (filter is_load (map headed ss))
each_headed f h [] = refl
each_headed f h (s ∷ ss) = kept f h (is_load s) s (filter is_load ss) (filter is_load (map headed ss)) (each_headed f h ss)

by_files : (files : List FileView) (xs ys : List SegmentView) (s : SegmentView) → mapping_in (space xs files) s ≡ mapping_in (space ys files) s
unfolding space entry_at
by_files files xs ys s = refl

headed_mapping : (files : List FileView) (xs : List SegmentView) (s : SegmentView) → mapping_in (space xs files) s ≡ mapping_in (space xs files) (headed s)
headed_mapping files xs s = refl

all_by_files : (files : List FileView) (xs ys ss : List SegmentView) → map (mapping_in (space xs files)) ss ≡ map (mapping_in (space ys files)) ss
all_by_files files xs ys [] = refl
all_by_files files xs ys (s ∷ ss) = ap (λ m. m ∷ map (mapping_in (space xs files)) ss) (by_files files xs ys s) ∙ ap (λ ms. mapping_in (space ys files) s ∷ ms) (all_by_files files xs ys ss)

mappings_same : (xs ys : List SegmentView) (files : List FileView) → map headed xs ≡ map headed ys → mappings_of (space xs files) ≡ mappings_of (space ys files)
unfolding mappings_of space
mappings_same xs ys files same =
    each_headed (mapping_in (space xs files)) (headed_mapping files xs) xs
    ∙ ap (λ ss. map (mapping_in (space xs files)) (filter is_load ss)) same
    ∙ sym (each_headed (mapping_in (space xs files)) (headed_mapping files xs) ys)
    ∙ all_by_files files xs ys (filter is_load ys)

made : (b : List ℕ) → memory_of b [] ≡ space (segments_of b) (mapped_files b)
unfolding memory_of space
made b = refl

maps_same : (f b : List ℕ) → map headed (segments_of f) ≡ map headed (segments_of b) → notes_of Core f ≡ notes_of Core b → maps_answer f ≡ maps_answer b
unfolding maps_answer
maps_same f b segments notes =
    let files : mapped_files f ≡ mapped_files b = ap (λ ns. files_by (first_desc 0x46494c45 ns)) notes in
    ap (λ (s : Space). Ok (flat_map mapping_line (mappings_of s))) (made f ∙ ap (space (segments_of f)) files)
    ∙ ap (λ ms. Ok (flat_map mapping_line ms)) (mappings_same (segments_of f) (segments_of b) (mapped_files b) segments)
    ∙ sym (ap (λ (s : Space). Ok (flat_map mapping_line (mappings_of s))) (made b))

pub maps_answered : (f b : List ℕ) → map headed (segments_of f) ≡ map headed (segments_of b) → notes_of Core f ≡ notes_of Core b → core_fault_of f ≡ core_fault_of b
    → in_core f (λ notes. maps_answer f) ≡ in_core b (λ notes. maps_answer b)
maps_answered f b segments notes fault =
    ap (λ o. unless (option_map core_reason o) (maps_answer f)) fault
    ∙ ap (unless (option_map core_reason (core_fault_of b))) (maps_same f b segments notes)
