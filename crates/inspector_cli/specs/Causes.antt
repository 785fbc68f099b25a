-- The cause of each fault of a session, and of the reply to the end of a stream.
use Rattle.std.specs.Prelude.{◌≡◌, ◌^◌, ◌≤◌, ℕ, List, length, None, Some, Ok, Err}
use Rattle.std.specs.Io.KnownBytes.{Consumes}
use Rattle.intake.specs.declared.faults.ArchiveFault.{ArchiveFault}
use Rattle.disk_model.specs.declared.disk.Disk as disk
use Rattle.diagnostics.specs.Counts.{HasRisen}
use Rattle.intake.specs.Calls.{FinishCall}
use Rattle.intake.specs.Parts.{Parts}
use Rattle.archive_replies.specs.Texts.{end_reply}
use Rattle.stream_names.specs.declared.naming.Naming.{Naming}
use Rattle.inspector_cli.specs.Reply.{Ends}
use Rattle.inspector_cli.specs.Session.{SessionEnds, Streams}
use Rattle.inspector_cli.specs.Stages.{Stage}
use Rattle.inspector_cli.specs.declared.session.SessionFault.{SessionFault}
use Rattle.inspector_cli.specs.declared.session.SessionFault.TheVariants.{ReadFailed, WriteFailed, TooManyReads}

-- of the streams of each session that ends with this fault
abbrev pub Tells : {D : Type 0} → disk.Ghosts D → SessionFault → (Streams → Type 0) → Type 0
Tells {D} g fault Cause = (naming : Naming) (t : Streams) (old : Stage D) (new : Parts D) → SessionEnds g naming t old new (Err fault) → Cause t

-- the input failed
abbrev pub AReadFailed : {D : Type 0} → disk.Ghosts D → Type 0
AReadFailed g = Tells g ReadFailed (λ t. HasRisen t.fails t.fails')

-- so many reads were made, each of which gave a byte
abbrev pub ReadsWereMany : {D : Type 0} → disk.Ghosts D → Type 0
ReadsWereMany g = Tells g TooManyReads (λ t. (read : List ℕ) × Consumes t.input t.input' read × (2 ^ 40 ≤ length read))

-- the output failed
abbrev pub AWriteFailed : {D : Type 0} → disk.Ghosts D → Type 0
AWriteFailed g = Tells g WriteFailed (λ t. HasRisen t.lost t.lost')

-- The number of a case stands in the reply to the end of a stream only if the archive answered with it, and the reply is no other text.
abbrev pub StoredIsAnswered : {D : Type 0} → disk.Ghosts D → Type 0
StoredIsAnswered {D} g = (old new : Parts D) (slot seq : ℕ) (reply : List ℕ) → Ends g old slot reply new (Some seq)
    → FinishCall g old slot (Ok seq) new × (reply ≡ end_reply (Ok seq))

-- A stream that is not stored has the reply of its refusal, and no other text.
abbrev pub RefusedIsAnswered : {D : Type 0} → disk.Ghosts D → Type 0
RefusedIsAnswered {D} g = (old new : Parts D) (slot : ℕ) (reply : List ℕ) → Ends g old slot reply new None
    → (fault : ArchiveFault) × FinishCall g old slot (Err fault) new × (reply ≡ end_reply (Err fault))
