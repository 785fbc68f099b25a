-- The report of a failure: `no REASON` for a refusal, and `fault NAME` if a session ended before its script.
use Rattle.std.specs.Prelude.{ℕ, Bool, true, false, List, [], ◌∷◌, ◌++◌, Option, Some, Result, codes, decimal}
use Rattle.archive_replies.specs.Reasons.{reason_of}
use Rattle.disk_model.specs.declared.file_fault.FileFault.{FileFault}
use Rattle.disk_model.specs.declared.file_fault.FileFault.TheVariants as file
use Rattle.inspector_cli.specs.declared.session.SessionFault.{SessionFault}
use Rattle.inspector_cli.specs.declared.session.SessionFault.TheVariants.{ReadFailed, WriteFailed, TooManyReads}
use Rattle.journal_layout.specs.FieldNames.{field_name}
use Rattle.journal_layout.specs.declared.faults.OpenFault.{OpenFault}
use Rattle.journal_layout.specs.declared.faults.OpenFault.TheVariants as opening
use Rattle.script_streams.specs.Printing.{IsDelivered}
use Rattle.script_streams.specs.declared.streams.StreamFault.{StreamFault}
use Rattle.image_replies.specs.Reasons.{elf_reason}
use Rattle.archive_files.specs.declared.build_store.BuildFault.{BuildFault}
use Rattle.archive_files.specs.declared.build_store.BuildFault.TheVariants as build
use Rattle.archive_files.specs.declared.failures.Failure.{Failure}
use Rattle.archive_files.specs.declared.failures.Failure.TheVariants.{Refused, Aside, Faulted, Unwritten, Told, Stalled}
use Rattle.archive_files.specs.declared.failures.Refusal.{Refusal}
use Rattle.archive_files.specs.declared.failures.Refusal.TheVariants.{BadLine, NoLine, Pipe, TemplateTooLong, BadShape, File, Unsafe, Output, LineTooLong, NotUtf8, OutOfMemory, Disk, Open, Call, Build}

-- A text goes to an output that had taken `before`: it takes all of it, or a front of it until a write fails.
abbrev pub IsToldAs : Option (List ℕ) → Option (List ℕ) → ℕ → ℕ → List ℕ → Type 0
IsToldAs before after count count' text = (r : Result (Unit {0}) StreamFault) × IsDelivered before count after count' text r

-- A text is kept, all of it or a front of it until there is no memory.
abbrev pub IsKeptAs : Option (List ℕ) → ℕ → List ℕ → Type 0
IsKeptAs kept count text = (before : ℕ) × IsToldAs (Some []) kept before count text

-- why an archive could not be opened: a damaged one by the place and the name of its first bad field
abbrev pub open_words : OpenFault → List ℕ
open_words opening.Disk = codes "Disk"
open_words opening.NotAnArchive = codes "NotAnArchive"
open_words opening.OutOfMemory = codes "OutOfMemory"
open_words (opening.UnknownVersion version) = codes "UnknownVersion " ++ decimal version
open_words (opening.Damaged at field) = ((codes "Damaged " ++ decimal at) ++ codes " ") ++ field_name field

-- why a file could not be made, opened or locked
abbrev pub file_words : FileFault → List ℕ
file_words file.Busy = codes "Busy"
file_words file.OutOfMemory = codes "OutOfMemory"
file_words file.Settle = codes "Disk"
file_words _ = codes "File"

-- why a file can't be stored under the name of its build
abbrev pub build_words : BuildFault → List ℕ
build_words build.Short = codes "Short"
build_words build.TooLong = codes "TooLong"
build_words (build.Headers fault) = elf_reason fault
build_words build.NoBuildId = codes "NoBuildId"
build_words build.OtherBuild = codes "OtherBuild"

-- the reason of a refusal
abbrev pub refusal_words : Refusal → List ℕ
refusal_words BadLine = codes "BadLine"
refusal_words (NoLine usage) = codes "BadLine"
refusal_words Pipe = codes "Pipe"
refusal_words TemplateTooLong = codes "TemplateTooLong"
refusal_words BadShape = codes "BadShape"
refusal_words (File word fault) = file_words fault
refusal_words (Unsafe word danger) = codes "File"
refusal_words Output = codes "File"
refusal_words LineTooLong = codes "LineTooLong"
refusal_words (NotUtf8 part) = codes "NotUtf8"
refusal_words OutOfMemory = codes "OutOfMemory"
refusal_words Disk = codes "Disk"
refusal_words (Open fault) = open_words fault
refusal_words (Call fault) = reason_of fault
refusal_words (Build fault) = build_words fault

abbrev pub fault_words : SessionFault → List ℕ
fault_words ReadFailed = codes "ReadFailed"
fault_words WriteFailed = codes "WriteFailed"
fault_words TooManyReads = codes "TooManyReads"

-- why a session ended before its script
abbrev pub fault_line : SessionFault → List ℕ
fault_line fault = (codes "fault " ++ fault_words fault) ++ 10 ∷ []

-- The failure is printed to the errors alone. The output is that of an image, or has the failure already.
abbrev pub is_aside : Failure → Bool
is_aside (Refused refusal) = false
is_aside (Aside refusal) = true
is_aside (Faulted fault) = true
is_aside (Unwritten kind) = true
is_aside Told = true
is_aside (Stalled seconds) = true

-- a promise about the refusal that the output gets, if it is one
abbrev pub IfRefused : Failure → (Refusal → Type 0) → Type 0
IfRefused (Refused refusal) P = P refusal
IfRefused _ P = Unit {0}

-- the property of a session's fault, if the failure is one
abbrev pub IfFaulted : Failure → (SessionFault → Type 0) → Type 0
IfFaulted (Faulted fault) P = P fault
IfFaulted _ P = Unit {0}

-- standard input gave nothing for so many seconds
unfoldable pub stall_words : ℕ → List ℕ
stall_words seconds = codes "standard input gave nothing for " ++ (decimal seconds ++ codes " seconds")

abbrev pub stalled_line : ℕ → List ℕ
stalled_line seconds = (codes "corekeep: " ++ stall_words seconds) ++ 10 ∷ []
