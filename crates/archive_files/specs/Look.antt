-- A session of lines that only look: the request of each line, and its answer.
use Rattle.std.specs.Prelude.{◌≡◌, ◌≢◌, ℕ, true, false, List, Option, Result, Ok, Err}
use Rattle.disk_model.specs.declared.disk.Disk as disk
use Rattle.inspector_cli.specs.declared.session.SessionFault.{SessionFault}
use Rattle.inspector_cli.specs.declared.session.SessionFault.TheVariants as session
use Rattle.script_lines.specs.Commands.{question_said}
use Rattle.script_lines.specs.Said.{Said, silence, long_line, only_looks, said}
use Rattle.script_streams.specs.Lines.{KeepsLine}
use Rattle.script_streams.specs.Reading.{GivesLine}
use Rattle.script_streams.specs.Replies.{no_reply}
use Rattle.script_streams.specs.Printing.{IsDelivered}
use Rattle.script_streams.specs.declared.reader.LineEnding.{LineEnding}
use Rattle.script_streams.specs.declared.reader.ReadStop.{ReadStop}
use Rattle.script_streams.specs.declared.reader.ReadStop.TheVariants.{ReadFailed, TooManyReads}
use Rattle.script_streams.specs.declared.streams.StreamFault.{StreamFault}
use Rattle.shared_disk.specs.declared.looked.Looked.{Looked}
use Rattle.shared_disk.specs.declared.shared.SharedDisk as shared
use Rattle.shared_disk.specs.declared.unlocked.Unlocked.{Unlocked}
use Rattle.archive_files.specs.declared.failures.Failure.{Failure}
use Rattle.archive_files.specs.declared.failures.Failure.TheVariants.{Refused, Faulted, Told}
use Rattle.archive_files.specs.declared.failures.Refusal.{Refusal}
use Rattle.archive_files.specs.declared.failures.Refusal.TheVariants as refusal
use Rattle.archive_files.specs.declared.look_session.LookLine.{LookLine}
use Rattle.archive_files.specs.declared.look_session.LookLine.TheVariants as line
use Rattle.archive_files.specs.declared.look_session.LookLines.{LookLines}
use Rattle.archive_files.specs.Asking.{AsksLooked}
use Rattle.archive_files.specs.Printing.{refusal_words}

-- The request of a line: a question only if it changes nothing. Any other line that has a reply is refused.
abbrev pub IsTakenAs : Said → LookLine → Type 0
IsTakenAs what line.End = ⊥
IsTakenAs what line.Silence = what ≡ silence
IsTakenAs what (line.Ask question) = (what ≡ question_said question) × (only_looks what ≡ true)
IsTakenAs what (line.Refused refusal.LineTooLong) = what ≡ long_line
IsTakenAs what (line.Refused refusal.BadLine) = (only_looks what ≡ false) × (what ≢ silence) × (what ≢ long_line)
IsTakenAs what (line.Refused _) = ⊥

abbrev pub read_fault : ReadStop → SessionFault
read_fault ReadFailed = session.ReadFailed
read_fault TooManyReads = session.TooManyReads

-- a line was read, and this is its request
abbrev pub TakesLine : Option (List ℕ) → Option (List ℕ) → LookLines → LookLines → LookLine → Type 0
TakesLine before after old new taken =
    (ending : LineEnding) × GivesLine before after old.buffer new.buffer new.line (Ok ending)
    × ((text : List ℕ) → KeepsLine text new.line → IsTakenAs (said text) taken)

-- the next line of the input, or why it could not be read
abbrev pub GivesLook : Option (List ℕ) → Option (List ℕ) → LookLines → LookLines → Result LookLine Failure → Type 0
GivesLook before after old new (Ok line.End) = Unit {0}
GivesLook before after old new (Ok taken) = TakesLine before after old new taken
GivesLook before after old new (Err failure) = (stop : ReadStop) × GivesLine before after old.buffer new.buffer new.line (Err stop) × (failure ≡ Faulted (read_fault stop))

-- whether a session goes on after a reply
abbrev pub heard : Result (Unit {0}) StreamFault → Result (Unit {0}) Failure
heard (Ok u) = Ok tt
heard (Err f) = Err (Faulted session.WriteFailed)

-- the reply says that a line is refused
abbrev pub Refuses : Option (List ℕ) → Option (List ℕ) → ℕ → ℕ → Refusal → Result (Unit {0}) Failure → Type 0
Refuses taken taken' lost lost' why r =
    (sent : Result (Unit {0}) StreamFault) × IsDelivered taken lost taken' lost' (no_reply (refusal_words why)) sent × (r ≡ heard sent)

-- The session goes on after a question whose reply was written, even if the question was refused. If a line has no reply yet, it gets one.
abbrev pub RepliesTo : Option (List ℕ) → Option (List ℕ) → ℕ → ℕ → Result (Unit {0}) Failure → Result (Unit {0}) Failure → Type 0
RepliesTo taken taken' lost lost' (Ok u) r = (r ≡ Ok tt) × (taken' ≡ taken) × (lost' ≡ lost)
RepliesTo taken taken' lost lost' (Err Told) r = (r ≡ Ok tt) × (taken' ≡ taken) × (lost' ≡ lost)
RepliesTo taken taken' lost lost' (Err (Refused why)) r = Refuses taken taken' lost lost' why r
RepliesTo taken taken' lost lost' (Err failure) r = (r ≡ Err failure) × (taken' ≡ taken) × (lost' ≡ lost)

-- A line that only looks is answered as a question alone is.
abbrev pub AnswersLook : {S : Type 0} (g : shared.Ghosts S) → disk.Ghosts (Unlocked S g) → Said → Option (List ℕ) → Option (List ℕ) → ℕ → ℕ → Result (Looked S g) Refusal → Result (Unit {0}) Failure → Type 0
AnswersLook g U what taken taken' lost lost' looked r =
    (mid : Option (List ℕ)) × (count : ℕ) × (asked : Result (Unit {0}) Failure)
    × AsksLooked g U what taken mid lost count looked asked
    × RepliesTo mid taken' count lost' asked r
