-- What is answered from the first bytes of an image, where they are sound.
use Rattle.std.proofs.Common.{◌≡◌, ℕ, ◌+◌, List, [], ◌∷◌, ◌++◌, map, None, Result, Ok, refl, ap, sym, ◌∙◌}
use Rattle.std.specs.Option.{option_or, option_map}
use Rattle.elf_view.specs.Front.{headed}
use Rattle.elf_view.specs.Header.{SegmentView, segments_of}
use Rattle.elf_view.specs.NoteList.{NoteView}
use Rattle.elf_view.specs.Sound.{first_fault}
use Rattle.elf_view.specs.ViewWords.{header_of, notes_of}
use Rattle.elf_view.specs.declared.faults.Want.{Want}
use Rattle.elf_view.specs.declared.faults.Want.TheVariants.{Core}
use Rattle.elf_view.specs.declared.view.Header.{Header}
use Rattle.core_notes.specs.Typed.{core_fault}
use Rattle.image_replies.specs.Core.{core_fault_of}
use Rattle.image_replies.specs.declared.core_image.CoreFault.TheVariants.{Elf, Note}
use Rattle.image_replies.specs.Header.{header_line, segment_line, segment_lines, header_answer}
use Rattle.image_replies.specs.Notes.{note_lines, notes_answer}
use Rattle.image_replies.specs.Lines.{numbered_lines, unless, in_core}
use Rattle.image_replies.specs.Reasons.{elf_reason, core_reason}

lines_headed : (i : ℕ) (ss : List SegmentView) → numbered_lines segment_line i ss ≡ numbered_lines segment_line i (map headed ss)
lines_headed i [] = refl
lines_headed i (s ∷ ss) = ap (λ r. segment_line i s ++ r) (lines_headed (i + 1) ss)

-- Two images of which neither has a fault.
module _ (f b : List ℕ) where
  lines_same : header_of f ≡ header_of b → map headed (segments_of f) ≡ map headed (segments_of b) → header_line (header_of f) ++ segment_lines (segments_of f) ≡ header_line (header_of b) ++ segment_lines (segments_of b)
  lines_same header segments =
      ap (λ (h : Header). header_line h ++ segment_lines (segments_of f)) header
      ∙ ap (λ r. header_line (header_of b) ++ r) (lines_headed 0 (segments_of f) ∙ ap (numbered_lines segment_line 0) segments ∙ sym (lines_headed 0 (segments_of b)))

  sound_lines : (want : Want) (x y : List ℕ) → first_fault want f ≡ None → first_fault want b ≡ None → x ≡ y
      → unless (option_map elf_reason (first_fault want f)) (Ok x) ≡ unless (option_map elf_reason (first_fault want b)) (Ok y)
  sound_lines want x y front whole is =
      ap (λ o. unless (option_map elf_reason o) (Ok x)) front
      ∙ ap (λ z. unless (option_map elf_reason None) (Ok z)) is
      ∙ sym (ap (λ o. unless (option_map elf_reason o) (Ok y)) whole)

  pub header_answered : (want : Want) → first_fault want f ≡ None → first_fault want b ≡ None → header_of f ≡ header_of b → map headed (segments_of f) ≡ map headed (segments_of b) → header_answer want f ≡ header_answer want b
  header_answered want front whole header segments = sound_lines want _ _ front whole (lines_same header segments)

  pub notes_answered : first_fault Core f ≡ None → first_fault Core b ≡ None → notes_of Core f ≡ notes_of Core b → notes_answer f ≡ notes_answer b
  notes_answered front whole notes = sound_lines Core _ _ front whole (ap note_lines notes)

  pub fault_same : first_fault Core f ≡ None → first_fault Core b ≡ None → notes_of Core f ≡ notes_of Core b → core_fault_of f ≡ core_fault_of b
  fault_same front whole notes =
      ap (λ o. option_or (option_map Elf o) (option_map Note (core_fault (notes_of Core f)))) front
      ∙ ap (λ ns. option_or (option_map Elf None) (option_map Note (core_fault ns))) notes
      ∙ sym (ap (λ o. option_or (option_map Elf o) (option_map Note (core_fault (notes_of Core b)))) whole)

  pub core_answered : (answer : List NoteView → Result (List ℕ) (List ℕ)) → first_fault Core f ≡ None → first_fault Core b ≡ None → notes_of Core f ≡ notes_of Core b → in_core f answer ≡ in_core b answer
  core_answered answer front whole notes =
      ap (λ o. unless (option_map core_reason o) (answer (notes_of Core f))) (fault_same front whole notes)
      ∙ ap (λ ns. unless (option_map core_reason (core_fault_of b)) (answer ns)) notes
