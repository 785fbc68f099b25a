-- Which notes of a core are looked at, and the first fault among them. Linux names its notes CORE.
use Rattle.std.specs.Prelude.{◌≡◌, ℕ, ◌==◌, ◌&&◌, if◌then◌else◌, Bool, List, [], ◌∷◌, ◌++◌, map, find, filter, Option, None, Some, is_none, IsTrue}
use Rattle.std.specs.List.{AllByRecursion, list_all}
use Rattle.std.specs.Option.{ForSome, option_map, option_or}
use Rattle.std.specs.Str.{bytes_eq}
use Rattle.elf_view.specs.NoteList.{NoteView}
use Rattle.elf_view.specs.Sound.{next_index}
use Rattle.core_notes.specs.Descriptor.{status_fault, psinfo_fault, auxv_fault, siginfo_fault}
use Rattle.core_notes.specs.FileList.{files_fault}
use Rattle.core_notes.specs.declared.faults.NoteFault.{NoteFault}
use Rattle.core_notes.specs.declared.faults.NoteField.{NoteField}

-- C, O, R, E
abbrev pub core_name : List ℕ
core_name = 67 ∷ 79 ∷ 82 ∷ 69 ∷ []

abbrev pub is_core_note : NoteView → Bool
is_core_note note = bytes_eq note.name core_name

-- a note named CORE of this type: NT_PRSTATUS 1, NT_PRPSINFO 3, NT_AUXV 6, NT_SIGINFO 0x53494749, NT_FILE 0x46494c45
abbrev pub is_typed : ℕ → NoteView → Bool
is_typed kind note = is_core_note note && note.kind == kind

-- the descriptor of the first of a type
abbrev pub first_desc : ℕ → List NoteView → Option (List ℕ)
first_desc kind notes = option_map (λ (note : NoteView). note.desc) (find (is_typed kind) notes)

-- the descriptors of all of a type, in order
abbrev pub all_descs : ℕ → List NoteView → List (List ℕ)
all_descs kind notes = map (λ (note : NoteView). note.desc) (filter (is_typed kind) notes)

-- the first descriptor of each type but NT_PRSTATUS
pub record FirstDescs : Type 0 where
  pub psinfo : Option (List ℕ)
  pub auxv : Option (List ℕ)
  pub siginfo : Option (List ℕ)
  pub files : Option (List ℕ)

abbrev pub first_descs : List NoteView → FirstDescs
first_descs notes = record {
  psinfo = first_desc 3 notes;
  auxv = first_desc 6 notes;
  siginfo = first_desc 0x53494749 notes;
  files = first_desc 0x46494c45 notes;
}

-- a fault that counts if a test holds
abbrev pub fault_if : Bool → Option NoteField → Option NoteField
fault_if t fault = if t then fault else None

-- The fault of a note, given the first descriptors before it: every NT_PRSTATUS is checked, and of each other type the first.
abbrev pub fault_after : FirstDescs → NoteView → Option NoteField
fault_after first note =
    option_or (fault_if (is_typed 1 note) (status_fault note.desc))
    (option_or (fault_if (is_typed 3 note && is_none first.psinfo) (psinfo_fault note.desc))
    (option_or (fault_if (is_typed 6 note && is_none first.auxv) (auxv_fault note.desc))
    (option_or (fault_if (is_typed 0x53494749 note && is_none first.siginfo) (siginfo_fault note.desc))
    (fault_if (is_typed 0x46494c45 note && is_none first.files) (files_fault note.desc)))))

-- the descriptor of a note that is of a type
abbrev pub desc_if : ℕ → NoteView → Option (List ℕ)
desc_if kind note = if is_typed kind note then Some note.desc else None

-- the first descriptors once one more note is seen
abbrev pub next_descs : FirstDescs → NoteView → FirstDescs
next_descs first note = record {
  psinfo = option_or first.psinfo (desc_if 3 note);
  auxv = option_or first.auxv (desc_if 6 note);
  siginfo = option_or first.siginfo (desc_if 0x53494749 note);
  files = option_or first.files (desc_if 0x46494c45 note);
}

abbrev pub note_fault_at : ℕ → NoteField → NoteFault
note_fault_at i f = record { index = i; «field» = f }

-- the first fault among notes from number i on that follow others
unfoldable pub first_note_fault : List NoteView → ℕ → List NoteView → Option NoteFault
first_note_fault before i [] = None
first_note_fault before i (note ∷ notes) =
    option_or (option_map (note_fault_at i) (fault_after (first_descs before) note)) (first_note_fault (before ++ note ∷ []) (next_index i) notes)

-- the first fault of a core's notes
abbrev pub core_fault : List NoteView → Option NoteFault
core_fault notes = first_note_fault [] 0 notes

-- each NT_PRSTATUS has its 376 bytes
abbrev pub is_status_whole : NoteView → Bool
is_status_whole note = is_none (fault_if (is_typed 1 note) (status_fault note.desc))

abbrev pub AreStatusesWhole : List NoteView → Type 0
AreStatusesWhole notes = IsTrue (list_all is_status_whole notes)

-- No note that is looked at has a fault: no NT_PRSTATUS, and of no other type the first.
pub record AreTypedWhole (notes : List NoteView) : Type 0 where
  pub statuses : AllByRecursion (λ d. status_fault d ≡ None) (all_descs 1 notes)
  pub psinfo : ForSome (first_desc 3 notes) (λ d. psinfo_fault d ≡ None)
  pub auxv : ForSome (first_desc 6 notes) (λ d. auxv_fault d ≡ None)
  pub siginfo : ForSome (first_desc 0x53494749 notes) (λ d. siginfo_fault d ≡ None)
  pub files : ForSome (first_desc 0x46494c45 notes) (λ d. files_fault d ≡ None)
