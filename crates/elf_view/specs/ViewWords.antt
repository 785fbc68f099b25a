-- The meaning of the code's view of an image.
use Rattle.std.specs.Prelude.{ℕ, List, [], map}
use Rattle.elf_view.specs.Header.{e_type, e_entry, e_flags, segment_count, segments_of}
use Rattle.elf_view.specs.NoteList.{NoteView, note_at, all_rests}
use Rattle.elf_view.specs.declared.faults.Want.{Want}
use Rattle.elf_view.specs.declared.faults.Want.TheVariants.{Core, Exec}
use Rattle.elf_view.specs.declared.view.Elf.{Elf}
use Rattle.elf_view.specs.declared.view.Header.{Header}

-- the image that is viewed, and the kind that it was read as
abbrev pub image_of : Elf → List ℕ
image_of elf = elf.image.now

abbrev pub want_of : Elf → Want
want_of elf = elf.want

-- the header's fields, and the number of program headers
abbrev pub header_of : List ℕ → Header
header_of b = record { kind = e_type b; entry = e_entry b; flags = e_flags b; segments = segment_count b }

-- the notes of a core, in the order of its PT_NOTE segments
abbrev pub notes_of : Want → List ℕ → List NoteView
notes_of Core b = map note_at (all_rests (segments_of b))
notes_of Exec b = []
