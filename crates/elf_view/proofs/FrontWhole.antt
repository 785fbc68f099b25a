-- What a sound front shows.
use Rattle.std.proofs.Common.{◌≡◌, ℕ, ◌+◌, ◌*◌, ◌<◌, List, map, take, refl, ap, arith}
use Rattle.elf_view.specs.Header.{e_phoff, segment_count, segment_at}
use Rattle.elf_view.specs.NoteList.{note_at}
use Rattle.elf_view.specs.Sound.{IsHeaderWhole, IsSound}
use Rattle.elf_view.specs.ViewWords.{notes_of}
use Rattle.elf_view.specs.declared.faults.Want.{Want}
use Rattle.elf_view.specs.declared.faults.Want.TheVariants.{Core, Exec}
use Rattle.elf_view.proofs.Tables.{segments_get}
use Rattle.elf_view.proofs.FirstFault.{note_within_at}
use Rattle.elf_view.proofs.FrontNotes.{NotesLie, rests_same}

pub each_lies : (n : ℕ) (b : List ℕ) → IsSound Core (take n b) → (j : ℕ) → j < segment_count (take n b) → NotesLie (take n b) (segment_at (take n b) j)
each_lies n b sound j h = note_within_at (take n b) j (segment_at (take n b) j) sound (segments_get (take n b) 0 (segment_count (take n b)) j (e_phoff (take n b) + 56 * j) h (omega arith))

pub notes_same : (want : Want) (n : ℕ) (b : List ℕ) → IsHeaderWhole (take n b) → IsSound want (take n b) → notes_of want (take n b) ≡ notes_of want b
notes_same Core n b whole sound = ap (map note_at) (rests_same n b whole (each_lies n b sound))
notes_same Exec n b whole sound = refl
