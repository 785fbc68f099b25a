-- The address that a register of a core gives.
use Rattle.std.specs.Prelude.{◌≡◌, ℕ, IfOk, List, Option, None, Some, Result, Ok, Err, codes, slice_get}
use Rattle.archive_files.specs.declared.failures.Refusal.{Refusal}
use Rattle.archive_files.specs.declared.failures.Refusal.TheVariants.{Open}
use Rattle.case_screens.specs.Core.{notes_in}
use Rattle.case_screens.specs.Reasons as reasons
use Rattle.case_screens.specs.ReasonWords.{reason_view}
use Rattle.case_screens.specs.declared.reason.Reason.{Reason}
use Rattle.core_notes.specs.Typed.{all_descs}
use Rattle.disk_model.specs.declared.disk.Disk as disk
use Rattle.elf_view.specs.NoteList.{NoteView}
use Rattle.case_queries.specs.Seeing.{SeesImage}
use Rattle.image_replies.specs.declared.core_image.CoreFault.{CoreFault}
use Rattle.intake.specs.Calls.{OpenCall}
use Rattle.intake.specs.Parts.{Parts, state_of}
use Rattle.intake.specs.Step.{HasCase}
use Rattle.journal_layout.specs.Case.{Case}
use Rattle.journal_layout.specs.declared.entry.Kind.{Kind}
use Rattle.journal_layout.specs.declared.entry.Kind.TheVariants.{Core, Exec}
use Rattle.journal_layout.specs.declared.faults.OpenFault.{OpenFault}
use Rattle.case_screens.specs.RegisterPlaces.{Place, address_in}

-- by the state of a thread, if it is there
abbrev pub address_of_thread : Option (List ℕ) → Place → Result ℕ reasons.Reason
address_of_thread None p = Err reasons.no_thread
address_of_thread (Some desc) p = Ok (address_in desc p)

-- by that of the first thread, which dumped
abbrev pub address_by : Result (List NoteView) CoreFault → Place → Result ℕ reasons.Reason
address_by (Ok notes) p = address_of_thread (slice_get (all_descs 1 notes) 0) p
address_by (Err fault) p = Err (reasons.core_reason fault)

-- an executable has no registers
abbrev pub not_core : reasons.Reason
not_core = record { name = codes "NotCore"; index = None }

-- an address that was found, or the reason
abbrev pub said : Result ℕ Reason → Result ℕ reasons.Reason
said (Ok address) = Ok address
said (Err reason) = Err (reason_view reason)

-- of a case of that kind
abbrev pub SeesAddressOf : {D : Type 0} → disk.Ghosts D → Parts D → ℕ → Place → Result ℕ reasons.Reason → Kind → Type 0
SeesAddressOf {D} g old seq p r Core = (image : List ℕ) × (new : Parts D) × SeesImage g old seq image new × (r ≡ address_by (notes_in image) p)
SeesAddressOf g old seq p r Exec = r ≡ Err not_core

-- The image of a core is seen, and the address is that of its first thread.
abbrev pub SeesAddress : {D : Type 0} → disk.Ghosts D → Parts D → ℕ → Place → Result ℕ reasons.Reason → Type 0
SeesAddress g old seq p r = (c : Case) × HasCase (state_of old) seq c × SeesAddressOf g old seq p r c.origin.kind

-- by the archive that was opened, or why it was not
abbrev pub AddressBy : {D : Type 0} → disk.Ghosts D → ℕ → Place → Result (Parts D) (OpenFault × D) → Result (Result ℕ Reason) Refusal → Type 0
AddressBy g seq p (Ok a) r = IfOk r (λ address. SeesAddress g a seq p (said address))
AddressBy g seq p (Err (fault, d)) r = r ≡ Err (Open fault)

-- The archive on a disk is opened, and the address is found.
abbrev pub AddressOn : {D : Type 0} → disk.Ghosts D → ℕ → Place → D → Result (Result ℕ Reason) Refusal → Type 0
AddressOn {D} g seq p before r = (opened : Result (Parts D) (OpenFault × D)) × OpenCall g 0 before opened × AddressBy g seq p opened r
