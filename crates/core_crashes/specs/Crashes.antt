-- The crash of a core.
use Rattle.std.specs.Prelude.{ℕ, Bool, List, [], ◌∷◌, find, Option, None}
use Rattle.std.specs.Option.{option_and_then, option_map}
use Rattle.std.specs.Str.{bytes_eq}
use Rattle.build_replies.specs.Builds.{BuildValue}
use Rattle.core_notes.specs.Descriptor.{pr_fname}
use Rattle.core_notes.specs.FieldNames.{note_field_name}
use Rattle.core_notes.specs.Typed.{first_desc}
use Rattle.crash_signatures.specs.Frames.{FileSaid}
use Rattle.crash_signatures.specs.Places.{place_of}
use Rattle.crash_signatures.specs.Program.{program_of}
use Rattle.crash_signatures.specs.Signature as signatures
use Rattle.crash_signatures.specs.Signature.{SignatureSaid}
use Rattle.elf_view.specs.FieldNames.{elf_field_name}
use Rattle.elf_view.specs.ViewWords.{notes_of}
use Rattle.elf_view.specs.declared.faults.Want.TheVariants.{Core}
use Rattle.frame_replies.specs.FrameValues.{FrameValue, ThreadFrames}
use Rattle.group_tables.specs.Values.{CrashSaid}
use Rattle.image_replies.specs.declared.core_image.CoreFault.{CoreFault}
use Rattle.image_replies.specs.declared.core_image.CoreFault.TheVariants.{Elf, Note}
use Rattle.journal_layout.specs.Case.{Case}
use Rattle.core_crashes.specs.Handled.{handled_said}
use Rattle.core_crashes.specs.Notes.{auxiliary_value, file_at}
use Rattle.core_crashes.specs.Walks.{frame_facts, is_whole, words_of}

-- a place in a build: the build ID that the core has for the file, if it has one, and the file's name with the place in it
pub record PlaceSaid : Type 0 where
  pub build : Option (List ℕ)
  pub text : List ℕ

-- a core with its crash, and its place, if that is known
pub record CrashedSaid : Type 0 where
  pub number : ℕ
  pub crash : CrashSaid
  pub place : Option PlaceSaid

abbrev pub path_of : FileSaid → List ℕ
path_of f = f.path

-- the path of the file that is mapped at AT_ENTRY (9)
abbrev pub entry_path : List ℕ → Option (List ℕ)
entry_path b = option_map path_of (file_at b (auxiliary_value 9 b))

-- the name of the process by its NT_PRPSINFO (3)
abbrev pub process_name : List ℕ → Option (List ℕ)
process_name b = option_map pr_fname (first_desc 3 (notes_of Core b))

-- the program of a core, whose case has this name
abbrev pub program_in : List ℕ → List ℕ → List ℕ
program_in name b = program_of (record { entry = entry_path b; process = process_name b; template = None; case_name = name })

-- by the name of the case alone
abbrev pub program_by_name : List ℕ → List ℕ
program_by_name name = program_of (record { entry = None; process = None; template = None; case_name = name })

-- the signature of frames, one of which is perhaps that of this signal
abbrev pub signature_in : List ℕ → ThreadFrames → Option ℕ → SignatureSaid
signature_in b frames handled = signatures.signature (words_of b frames) (option_map handled_said handled) (is_whole frames)

abbrev pub is_of_path : List ℕ → BuildValue → Bool
is_of_path path v = bytes_eq v.name path

-- the build ID that the core has for the file of a path
abbrev pub id_of : List BuildValue → List ℕ → Option (List ℕ)
id_of builds path = option_and_then (λ (v : BuildValue). v.core) (find (is_of_path path) builds)

abbrev pub id_at : List BuildValue → Option FileSaid → Option (List ℕ)
id_at builds file = option_and_then (λ (f : FileSaid). id_of builds f.path) file

-- the place of a frame
abbrev pub place_with : List ℕ → List BuildValue → FrameValue → Option PlaceSaid
place_with b builds v = option_map (λ (text : List ℕ). record { build = id_at builds (file_at b v.looked_up); text = text }) (place_of (frame_facts b v))

abbrev pub place_among : List ℕ → List BuildValue → List FrameValue → Option PlaceSaid
place_among b builds [] = None
place_among b builds (v ∷ vs) = place_with b builds v

-- that of the innermost
abbrev pub place_in : List ℕ → ThreadFrames → List BuildValue → Option PlaceSaid
place_in b frames builds = place_among b builds frames.frames

-- The crash of a core, by the frames of the thread that dumped, the signal of which one was being handled, and the build IDs that the
-- core has for its mapped files.
abbrev pub crash_of : Case → List ℕ → ThreadFrames → Option ℕ → List BuildValue → CrashedSaid
crash_of c b frames handled builds = record {
  number = c.seq;
  crash = record { program = program_in c.origin.name b; signal = c.origin.signal; signature = signature_in b frames handled };
  place = place_in b frames builds;
}

-- the name of the bad field (System V gABI; core(5))
abbrev pub field_of : CoreFault → List ℕ
field_of (Elf fault) = elf_field_name fault.«field»
field_of (Note fault) = note_field_name fault.«field»

-- of which no frame is known, for this reason
abbrev pub crash_by_name : Case → List ℕ → CrashedSaid
crash_by_name c reason = record {
  number = c.seq;
  crash = record { program = program_by_name c.origin.name; signal = c.origin.signal; signature = signatures.refused reason };
  place = None;
}
