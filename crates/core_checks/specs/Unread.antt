-- Notes of a core that are not read as they are meant.
use Rattle.std.specs.Prelude.{ℕ, zero, suc, ◌+◌, ◌*◌, ◌==◌, ◌&&◌, ◌||◌, nat_lt, if◌then◌else◌, Bool, true, false, List, [], ◌∷◌, length, Option, None, Some}
use Rattle.std.specs.List.{list_any}
use Rattle.std.specs.Str.{bytes_eq}
use Rattle.elf_view.specs.Field.{field}
use Rattle.elf_view.specs.Header.{e_phoff, e_phnum}
use Rattle.elf_view.specs.NoteList.{NoteView}
use Rattle.elf_view.specs.Sound.{first_fault}
use Rattle.elf_view.specs.ViewWords.{notes_of}
use Rattle.elf_view.specs.declared.faults.ElfFault.{ElfFault}
use Rattle.elf_view.specs.declared.faults.ElfField.{ElfField}
use Rattle.elf_view.specs.declared.faults.ElfField.TheVariants.{NNamesz, NDescsz}
use Rattle.elf_view.specs.declared.faults.Want.TheVariants.{Core}
use Rattle.core_checks.specs.declared.notes.UnreadNotes.{UnreadNotes}
use Rattle.core_checks.specs.declared.notes.UnreadNotes.TheVariants.{Padded, Linux}

-- the program header at a place is a PT_NOTE (4), and its p_align is 8
abbrev pub is_padded : List ℕ → ℕ → Bool
is_padded b at = field b at 4 == 4 && field b (at + 48) 8 == 8

-- one of n program headers from a place on
abbrev pub any_padded : List ℕ → ℕ → ℕ → Bool
any_padded b table zero = false
any_padded b table (suc n) = any_padded b table n || is_padded b (table + 56 * n)

-- one of those of an image, if its header and all of them are there
unfoldable pub has_padded : List ℕ → Bool
has_padded b =
    if nat_lt (length b) 64 then false else (if nat_lt (length b) (e_phoff b + 56 * e_phnum b) then false else any_padded b (e_phoff b) (e_phnum b))

-- a note does not fit
abbrev pub is_of_note : ElfField → Bool
is_of_note NNamesz = true
is_of_note NDescsz = true
is_of_note _ = false

-- a thread's state (NT_PRSTATUS, 1) by a note that is named LINUX
abbrev pub is_linux_state : NoteView → Bool
is_linux_state note = note.kind == 1 && bytes_eq note.name (76 ∷ 73 ∷ 78 ∷ 85 ∷ 88 ∷ [])

-- of a core without a fault such notes are not read; of one with a note that does not fit, those that are padded to 8 bytes
abbrev pub unread_by : List ℕ → Option ElfFault → Option UnreadNotes
unread_by b None = if list_any is_linux_state (notes_of Core b) then Some Linux else None
unread_by b (Some fault) = if is_of_note fault.«field» && has_padded b then Some Padded else None

unfoldable pub unread_notes : List ℕ → Option UnreadNotes
unread_notes b = unread_by b (first_fault Core b)
