-- A question that is answered between two looks at its archive, and the report if it was not.
use Rattle.std.specs.Prelude.{◌≡◌, ℕ, Bool, List, [], Option, Some, Result, Ok, Err}
use Rattle.inspector_cli.specs.declared.session.LifeFault.TheVariants as life
use Rattle.inspector_cli.specs.declared.session.SessionFault.TheVariants.{WriteFailed}
use Rattle.intake.specs.declared.faults.ArchiveFault.TheVariants.{NoCase}
use Rattle.disk_model.specs.declared.disk.Disk as disk
use Rattle.script_lines.specs.Said.{Said}
use Rattle.script_streams.specs.Writing.{Writes}
use Rattle.script_streams.specs.declared.streams.StreamFault.{StreamFault}
use Rattle.shared_disk.specs.Looks.{shared_of}
use Rattle.shared_disk.specs.declared.looked.Looked.{Looked}
use Rattle.shared_disk.specs.declared.shared.SharedDisk as shared
use Rattle.shared_disk.specs.declared.unlocked.Unlocked.{Unlocked}
use Rattle.archive_files.specs.UnlockedAsks.{AsksUnlocked}
use Rattle.archive_files.specs.declared.unlocked_faults.AskFault.{AskFault}
use Rattle.archive_files.specs.declared.unlocked_faults.AskFault.TheVariants as fault
use Rattle.archive_files.specs.declared.failures.Failure.{Failure}
use Rattle.archive_files.specs.declared.failures.Failure.TheVariants.{Refused, Faulted}
use Rattle.archive_files.specs.declared.failures.FileWord.TheVariants.{Archive}
use Rattle.archive_files.specs.declared.failures.Refusal.{Refusal}
use Rattle.archive_files.specs.declared.failures.Refusal.TheVariants.{File, Open, Call, OutOfMemory}
use Rattle.archive_files.specs.Looking.{look_fault}
use Rattle.archive_files.specs.Told.{ask_told}

-- A case that is gone is reported as if it had never been there. A reply that is held fails only if there is no memory.
abbrev pub unasked : AskFault → Refusal
unasked (fault.Open f) = Open f
unasked (fault.Archive f) = Call f
unasked (fault.Life (life.Open f)) = Open f
unasked (fault.Life (life.Session f)) = OutOfMemory
unasked (fault.Look f) = File Archive (look_fault f)
unasked (fault.Reopen f) = Open f
unasked fault.Gone = Call NoCase

-- how a question ended whose reply was written, or not
abbrev pub delivered_told : Bool → Result (Unit {0}) StreamFault → Result (Unit {0}) Failure
delivered_told done (Ok u) = ask_told (Ok done)
delivered_told done (Err f) = Err (Faulted WriteFailed)

-- A reply that was held goes to an output: all of it, or a front of it until a write fails.
abbrev pub DeliversReply : Option (List ℕ) → Option (List ℕ) → ℕ → ℕ → List ℕ → Bool → Result (Unit {0}) Failure → Type 0
DeliversReply taken taken' lost lost' text done r =
    (sent : Result (Unit {0}) StreamFault) × Writes taken taken' lost lost' text sent × (r ≡ delivered_told done sent)

-- The reply to a question that was answered goes to the output. If the question was not answered, nothing goes there, and the reason is reported.
abbrev pub DeliversAnswer : Option (List ℕ) → Option (List ℕ) → ℕ → ℕ → List ℕ → Result Bool AskFault → Result (Unit {0}) Failure → Type 0
DeliversAnswer taken taken' lost lost' text (Ok done) r = DeliversReply taken taken' lost lost' text done r
DeliversAnswer taken taken' lost lost' text (Err f) r = (r ≡ Err (Refused (unasked f))) × (taken' ≡ taken) × (lost' ≡ lost)

-- A question is answered from a look at its archive on, into a text that is held until the answer is known to be right, and then
-- delivered. If there was no look, that is reported, and the output is not touched.
abbrev pub AsksLooked : {S : Type 0} (g : shared.Ghosts S) → disk.Ghosts (Unlocked S g) → Said → Option (List ℕ) → Option (List ℕ) → ℕ → ℕ → Result (Looked S g) Refusal → Result (Unit {0}) Failure → Type 0
AsksLooked g U what taken taken' lost lost' (Ok looked) r =
    (text : List ℕ) × (count count' : ℕ) × (asked : Result Bool AskFault)
    × AsksUnlocked g U (shared_of looked) what (Some []) (Some text) count count' asked
    × DeliversAnswer taken taken' lost lost' text asked r
AsksLooked g U what taken taken' lost lost' (Err refusal) r = (r ≡ Err (Refused refusal)) × (taken' ≡ taken) × (lost' ≡ lost)
