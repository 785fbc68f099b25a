-- The calls that answer a line.
use Rattle.std.specs.Prelude.{◌≡◌, ◌≢◌, ℕ, ◌+◌, ◌<◌, ◌≤◌, Bool, true, false, List, [], ◌++◌, length, Option, Result, Ok, Err}
use Rattle.intake.specs.declared.faults.ArchiveFault.{ArchiveFault}
use Rattle.disk_model.specs.declared.disk.Disk as disk
use Rattle.intake.specs.Parts.{Parts}
use Rattle.script_streams.specs.Reading.{Gives, IsUsedUp, Stops, held_bytes}
use Rattle.script_streams.specs.Replies.{Printing, PrintsText}
use Rattle.script_streams.specs.declared.reader.ScriptBuffer.{ScriptBuffer}
use Rattle.script_streams.specs.declared.reader.ReadStop.{ReadStop}
use Rattle.script_streams.specs.declared.reader.ReadStop.TheVariants as stop
use Rattle.script_streams.specs.declared.streams.Input as input
use Rattle.inspector_cli.specs.declared.session.SessionFault.{SessionFault}
use Rattle.inspector_cli.specs.declared.session.SessionFault.TheVariants as fault
use Rattle.inspector_cli.specs.declared.script.ScriptStop.{ScriptStop}
use Rattle.inspector_cli.specs.declared.script.ScriptStop.TheVariants.{Read, Unheard}
use Rattle.stream_names.specs.declared.naming.Naming.{Naming}
use Rattle.script_lines.specs.Said.{Said, said, raw_length}
use Rattle.inspector_cli.specs.Reply.{Replies, Takes}
use Rattle.inspector_cli.specs.Stages.{Stage}
use Rattle.inspector_cli.specs.Session.{Item, IsItem, spelled, Ending, IsEnding, ending_text, EndReplies, BreaksOff, AnswersAll, AnswersWhole, ButTheLast, Truncates, TakesFront, LastReplies}
use Rattle.inspector_cli.specs.Heard.{TakesFrontOf, PrintsReady}

-- a line with no bytes after it is answered
abbrev pub AnswersTo : {D : Type 0} → disk.Ghosts D → Naming → Printing → Parts D → Said → List ℕ → Parts D → Type 0
AnswersTo g naming t old what raw new = (text : List ℕ) × Replies g naming old what raw text new × PrintsText t text

-- an input before and after, with the bytes that were read and not used
pub record Reading : Type 0 where
  pub before : Option (List ℕ)
  pub after : Option (List ℕ)
  pub buffer : ScriptBuffer
  pub buffer' : ScriptBuffer

-- the same, by the input's members and ends
abbrev pub reading : {I : Type 0} → input.Ghosts I → I → I → ScriptBuffer → ScriptBuffer → Reading
reading i input input' buffer buffer' = record { before = i.remaining input; after = i.remaining input'; buffer = buffer; buffer' = buffer' }

abbrev pub GivesBytes : Reading → List ℕ → Type 0
GivesBytes r given = Gives r.before r.after r.buffer r.buffer' given

abbrev pub IsReadUp : Reading → Type 0
IsReadUp r = IsUsedUp r.after r.buffer'

-- n bytes of a part are thrown away, up to the number that is wanted, or they end
abbrev pub SkipEnds : Reading → ℕ → Result ℕ ReadStop → Type 0
SkipEnds r most (Ok n) = (raw : List ℕ) × (length raw ≡ n) × (n ≤ most) × GivesBytes r raw × (n ≡ 0 → IsReadUp r)
SkipEnds r most (Err stop) = GivesBytes r [] × (held_bytes r.buffer' ≡ [])

-- a number of bytes of a part is taken, up to the number that is wanted, or they end
abbrev pub PieceEnds : {D : Type 0} → disk.Ghosts D → Reading → Parts D → ℕ → List ℕ → ℕ → Result (Unit {0}) ArchiveFault → Parts D → Result (ℕ × Result (Unit {0}) ArchiveFault) ReadStop → Type 0
PieceEnds g r begun slot so_far most verdict new (Ok x) =
    (raw : List ℕ) × (length raw ≡ x.0) × (x.0 ≤ most) × GivesBytes r raw × (x.0 ≡ 0 → IsReadUp r) × Takes g begun slot (so_far ++ raw) x.1 new
PieceEnds g r begun slot so_far most verdict new (Err stop) =
    GivesBytes r [] × (held_bytes r.buffer' ≡ []) × Takes g begun slot so_far verdict new

-- the bytes of a part are taken; the result says how many of them are missing if the input ended
abbrev pub PartEnds : {D : Type 0} → disk.Ghosts D → Reading → Parts D → ℕ → ℕ → Parts D → Result (ℕ × Result (Unit {0}) ArchiveFault) ReadStop → Type 0
PartEnds g r old slot count new (Ok x) =
    (raw : List ℕ) × (length raw + x.0 ≡ count) × GivesBytes r raw × (x.0 ≢ 0 → IsReadUp r) × Takes g old slot raw x.1 new
PartEnds g r old slot count new (Err stop) =
    (raw : List ℕ) × (length raw < count) × GivesBytes r raw × (held_bytes r.buffer' ≡ []) × (verdict : Result (Unit {0}) ArchiveFault) × Takes g old slot raw verdict new

-- a part is answered, whole or not
abbrev pub PartAnswers : {D : Type 0} → disk.Ghosts D → Naming → Reading → Printing → Parts D → Said → Parts D → Result Bool ReadStop → Type 0
PartAnswers g naming r t old what new (Ok true) = (raw : List ℕ) × (length raw ≡ raw_length what) × GivesBytes r raw × AnswersTo g naming t old what raw new
PartAnswers g naming r t old what new (Ok false) =
    (raw : List ℕ) × (length raw < raw_length what) × GivesBytes r raw × IsReadUp r × (reply : List ℕ) × Truncates g old what raw reply new × PrintsText t reply
PartAnswers g naming r t old what new (Err stop) =
    (raw : List ℕ) × (length raw < raw_length what) × GivesBytes r raw × (held_bytes r.buffer' ≡ []) × TakesFront g old what raw new × PrintsText t []

-- a last line is answered
abbrev pub LastAnswers : {D : Type 0} → disk.Ghosts D → Naming → Printing → Parts D → Said → Parts D → Type 0
LastAnswers g naming t old what new = (reply : List ℕ) × LastReplies g naming (raw_length what) old what reply new × PrintsText t reply

-- One command: an item is answered, or the script ends, and before its reply no write has failed; or it can't be read on, or the output has
-- failed, and the item that was read is not carried out
abbrev pub CommandEnds : {D : Type 0} → disk.Ghosts D → Naming → Reading → Printing → Parts D → Parts D → Result Bool ScriptStop → Type 0
CommandEnds g naming r t old new (Ok true) =
    (i : Item) × IsItem i × GivesBytes r (spelled i) × (answer : AnswersTo g naming t old (said i.line) i.raw new) × PrintsReady t answer.0
CommandEnds g naming r t old new (Ok false) =
    (e : Ending) × IsEnding e × GivesBytes r (ending_text e) × IsReadUp r × (reply : List ℕ) × EndReplies g naming old e reply new × PrintsText t reply × PrintsReady t reply
CommandEnds g naming r t old new (Err (Read stop)) =
    (rest : List ℕ) × GivesBytes r rest × (held_bytes r.buffer' ≡ []) × BreaksOff g old rest new × PrintsText t []
CommandEnds g naming r t old new (Err Unheard) =
    (rest : List ℕ) × GivesBytes r rest × (new ≡ old) × (t.after.unwritten.failed ≡ true) × PrintsText t []

-- all commands of a script, and the archive after each
abbrev pub ScriptEnds : {D : Type 0} → disk.Ghosts D → Naming → Reading → Printing → Stage D → Parts D → Result (Unit {0}) ScriptStop → Type 0
ScriptEnds {D} g naming r t old new (Ok u) =
    (read : List ℕ) × (out : List ℕ) × (stages : List (Stage D)) × (end : Stage D) × GivesBytes r read × IsReadUp r × (all : AnswersAll g naming read out old stages end)
    × (end.archive ≡ new) × PrintsText t out × TakesFrontOf t out all.replies
ScriptEnds {D} g naming r t old new (Err Unheard) =
    (read : List ℕ) × (more : List ℕ) × (out : List ℕ) × (stages : List (Stage D)) × (end : Stage D) × GivesBytes r (read ++ more) × (w : AnswersWhole g naming read out old stages end) × (w.rest ≡ [])
    × (end.archive ≡ new) × (t.after.unwritten.failed ≡ true) × PrintsText t out × ButTheLast g naming old w.items out (TakesFrontOf t out)
ScriptEnds {D} g naming r t old new (Err (Read stop)) =
    (read : List ℕ) × (out : List ℕ) × (stages : List (Stage D)) × (end : Stage D) × GivesBytes r read × (held_bytes r.buffer' ≡ []) × (w : AnswersWhole g naming read out old stages end)
    × (end.archive ≡ new) × PrintsText t out × ButTheLast g naming old w.items out (TakesFrontOf t out)

-- the input's failures, if reading stopped a script; else none
abbrev pub Halts : {T : Type 0} → ℕ → ℕ → ScriptBuffer → Result T ScriptStop → Type 0
Halts before after buffer (Ok x) = after ≡ before
Halts before after buffer (Err (Read stop)) = Stops {T = Unit {0}} before after buffer (Err stop)
Halts before after buffer (Err Unheard) = after ≡ before

-- the result of a session whose script was not answered to its end
abbrev pub session_fault : ScriptStop → SessionFault
session_fault (Read stop.ReadFailed) = fault.ReadFailed
session_fault (Read stop.TooManyReads) = fault.TooManyReads
session_fault Unheard = fault.WriteFailed
