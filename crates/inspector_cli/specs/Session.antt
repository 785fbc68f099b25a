-- A session: the script cut into lines and the bytes of their parts, and the replies to them in order.
use Rattle.std.specs.Prelude.{◌≡◌, ◌⊎◌, ℕ, zero, suc, ◌+◌, ◌^◌, ◌<◌, ◌≤◌, List, [], ◌∷◌, ◌++◌, length, Option, None, Result, Ok, Err, codes}
use Rattle.std.specs.List.{flat_map, AllByRecursion}
use Rattle.std.specs.Io.KnownBytes.{Consumes, Appends, IsAtEnd}
use Rattle.intake.specs.declared.faults.ArchiveFault.{ArchiveFault}
use Rattle.disk_model.specs.declared.disk.Disk as disk
use Rattle.intake.specs.Calls.{ChangesNoCase, AbandonCall}
use Rattle.intake.specs.Parts.{Parts, state_of}
use Rattle.intake.specs.Slots.{stream_at}
use Rattle.intake.specs.State.{ArchiveState}
use Rattle.diagnostics.specs.Counts.{HasRisen}
use Rattle.script_streams.specs.declared.streams.Input as input
use Rattle.script_streams.specs.declared.streams.Output as output
use Rattle.script_streams.specs.Lines.{IsLine}
use Rattle.stream_names.specs.declared.naming.Naming.{Naming}
use Rattle.script_lines.specs.Said.{Said, silence, part_of, said, raw_length}
use Rattle.script_streams.specs.Replies.{no_reply}
use Rattle.inspector_cli.specs.Reply.{Replies, Takes}
use Rattle.inspector_cli.specs.Stages.{Stage, Moves, IsFoundAfterAStop}
use Rattle.inspector_cli.specs.declared.session.SessionFault.{SessionFault}
use Rattle.inspector_cli.specs.declared.session.SessionFault.TheVariants.{ReadFailed, WriteFailed, TooManyReads}

-- a line, and the bytes after its newline
pub record Item : Type 0 where
  pub line : List ℕ
  pub raw : List ℕ

abbrev pub spelled : Item → List ℕ
spelled i = i.line ++ 10 ∷ i.raw

-- one line, and as many bytes as it says
pub record IsItem (i : Item) : Type 0 where
  pub line : IsLine i.line
  pub raw : length i.raw ≡ raw_length (said i.line)

-- how a script ends, after its whole items
pub data Ending : Type 0 where
  -- with the last of them
  complete : Ending
  -- with a line that no newline ends
  last_line : List ℕ → Ending
  -- with a line and some of the bytes that it says follow it
  cut_part : List ℕ → List ℕ → Ending

abbrev pub ending_text : Ending → List ℕ
ending_text complete = []
ending_text (last_line line) = line
ending_text (cut_part line raw) = line ++ 10 ∷ raw

abbrev pub IsEnding : Ending → Type 0
IsEnding complete = Unit {0}
IsEnding (last_line line) = IsLine line × (0 < length line)
IsEnding (cut_part line raw) = IsLine line × (length raw < raw_length (said line))

-- The replies to items, one after the other, and the archive after each.
abbrev pub AnswersItems : {D : Type 0} → disk.Ghosts D → Naming → Stage D → List Item → List ℕ → List (Stage D) → Type 0
AnswersItems g naming old [] out [] = out ≡ []
AnswersItems g naming old [] out (s ∷ ss) = ⊥
AnswersItems g naming old (i ∷ is) out [] = ⊥
AnswersItems g naming old (i ∷ is) out (s ∷ ss) =
    (reply : List ℕ) × (more : List ℕ) × Replies g naming old.archive (said i.line) i.raw reply s.archive × Moves g old (said i.line) reply s
    × AnswersItems g naming s is more ss × (out ≡ reply ++ more)

-- after the last of them
abbrev pub last_stage : {D : Type 0} → Stage D → List (Stage D) → Stage D
last_stage s [] = s
last_stage s (t ∷ ts) = last_stage t ts

-- a part whose bytes are not all there: those that are there are taken, and then the stream is dropped
abbrev pub Truncates : {D : Type 0} → disk.Ghosts D → Parts D → Said → List ℕ → List ℕ → Parts D → Type 0
Truncates {D} g old (part_of slot n) raw reply new =
    (mid : Parts D) × (taken : Result (Unit {0}) ArchiveFault) × (dropped : Result (Unit {0}) ArchiveFault)
    × Takes g old slot raw taken mid × AbandonCall g mid slot dropped new × (reply ≡ no_reply (codes "Truncated"))
Truncates g old _ raw reply new = ⊥

-- the reply to how a script ends: a last line is a line like any other, if no bytes are to follow it
abbrev pub LastReplies : {D : Type 0} → disk.Ghosts D → Naming → ℕ → Parts D → Said → List ℕ → Parts D → Type 0
LastReplies g naming zero old what reply new = Replies g naming old what [] reply new
LastReplies g naming (suc n) old what reply new = Truncates g old what [] reply new

abbrev pub EndReplies : {D : Type 0} → disk.Ghosts D → Naming → Parts D → Ending → List ℕ → Parts D → Type 0
EndReplies g naming old complete reply new = (reply ≡ []) × (new ≡ old)
EndReplies g naming old (last_line line) reply new = LastReplies g naming (raw_length (said line)) old (said line) reply new
EndReplies g naming old (cut_part line raw) reply new = Truncates g old (said line) raw reply new

-- the meaning of the last line
abbrev pub said_last : Ending → Said
said_last complete = silence
said_last (last_line line) = said line
said_last (cut_part line raw) = said line

-- a whole script and its text, and the archive after each of its lines, and at its end
pub record AnswersAll {D : Type 0} (g : disk.Ghosts D) (naming : Naming) (read out : List ℕ) (old : Stage D) (stages : List (Stage D)) (new : Stage D) : Type 0 where
  pub items : List Item
  pub each : AllByRecursion IsItem items
  pub ending : Ending
  pub ends : IsEnding ending
  pub cut : read ≡ flat_map spelled items ++ ending_text ending
  pub replies : List ℕ
  pub run : AnswersItems g naming old items replies stages
  pub last : List ℕ
  pub final : EndReplies g naming (last_stage old stages).archive ending last new.archive
  pub moves : Moves g (last_stage old stages) (said_last ending) last new
  pub text : out ≡ replies ++ last

-- Reading stopped within a command: not all of its line is there, or not all
-- of the bytes after it; of these, those that are there may have been taken.
abbrev pub TakesFront : {D : Type 0} → disk.Ghosts D → Parts D → Said → List ℕ → Parts D → Type 0
TakesFront g old (part_of slot n) raw new = (taken : Result (Unit {0}) ArchiveFault) × Takes g old slot raw taken new
TakesFront g old _ raw new = ⊥

abbrev pub BreaksOff : {D : Type 0} → disk.Ghosts D → Parts D → List ℕ → Parts D → Type 0
BreaksOff g old rest new =
    (IsLine rest × (new ≡ old))
    ⊎ ((line : List ℕ) × (raw : List ℕ) × (rest ≡ line ++ 10 ∷ raw) × IsLine line × (length raw < raw_length (said line)) × TakesFront g old (said line) raw new)

-- the bytes that were read of a script that could not be read on, and the replies to all commands that are whole in them
pub record AnswersWhole {D : Type 0} (g : disk.Ghosts D) (naming : Naming) (read out : List ℕ) (old : Stage D) (stages : List (Stage D)) (new : Stage D) : Type 0 where
  pub items : List Item
  pub each : AllByRecursion IsItem items
  pub rest : List ℕ
  pub cut : read ≡ flat_map spelled items ++ rest
  pub run : AnswersItems g naming old items out stages
  pub broken : BreaksOff g (last_stage old stages).archive rest new.archive
  pub moves : Moves g (last_stage old stages) silence [] new

-- no stream is open in any slot
abbrev pub HasNoStream : ArchiveState → Type 0
HasNoStream s = (slot : ℕ) → stream_at s.streams slot ≡ None

-- the streams are dropped, and nothing else is
pub record DropsStreams {D : Type 0} (g : disk.Ghosts D) (old new : Parts D) : Type 0 where
  pub quiet : HasNoStream (state_of new)
  pub kept : state_of new ≡ record (state_of old) { streams = (state_of new).streams }
  pub disk : new.disk ≡ old.disk
  pub stays : ChangesNoCase g old new

-- the streams of a session before and after it
pub record Streams : Type 0 where
  pub input : Option (List ℕ)
  pub input' : Option (List ℕ)
  pub fails : ℕ
  pub fails' : ℕ
  pub taken : Option (List ℕ)
  pub taken' : Option (List ℕ)
  pub lost : ℕ
  pub lost' : ℕ

-- the same, by an input's and an output's members and ends
abbrev pub streams_of : {I : Type 0} {O : Type 0} → input.Ghosts I → output.Ghosts O → I → I → O → O → Streams
streams_of i o input input' output output' = record {
  input = i.remaining input;
  input' = i.remaining input';
  fails = i.failures input;
  fails' = i.failures input';
  taken = o.taken output;
  taken' = o.taken output';
  lost = o.failures output;
  lost' = o.failures output';
}

-- Of the replies to items, those to all but the last of them.
pub record ButTheLast {D : Type 0} (g : disk.Ghosts D) (naming : Naming) (old : Stage D) (items : List Item) (replies : List ℕ) (Holds : List ℕ → Type 0) : Type 0 where
  pub front : List Item
  pub last : List Item
  pub all : items ≡ front ++ last
  pub one : length last ≤ 1
  pub before : List ℕ
  pub after : List ℕ
  pub split : replies ≡ before ++ after
  pub stages : List (Stage D)
  pub run : AnswersItems g naming old front before stages
  pub holds : Holds before

-- Whoever has the first n bytes of the replies has heard these but for at most 8,192 bytes: a reply is held until there is no room for it.
abbrev pub IsHeard : ℕ → List ℕ → Type 0
IsHeard n replies = length replies ≤ n + 8192

-- The output failed. The commands of a front of the bytes that were read are carried out, and the output has a front of their replies: all
-- replies but that to the last of them, except at most 8,192 bytes. The commands after them are not carried out.
pub record StopsUnheard {D : Type 0} (g : disk.Ghosts D) (naming : Naming) (t : Streams) (old : Stage D) (new : Parts D) : Type 0 where
  -- the bytes of the commands that are carried out, and those that were read after them
  pub read : List ℕ
  pub more : List ℕ
  -- the replies: those that the output has, and those that it has not
  pub out : List ℕ
  pub rest : List ℕ
  pub stages : List (Stage D)
  pub end : Stage D
  pub consumed : Consumes t.input t.input' (read ++ more)
  pub appended : Appends t.taken t.taken' out
  pub carried :
      ((all : AnswersAll g naming read (out ++ rest) old stages end) × (more ≡ [])
      × ButTheLast g naming old all.items all.replies (IsHeard (length out)) × ((all.ending ≡ complete) ⊎ IsHeard (length out) all.replies))
      ⊎ ((whole : AnswersWhole g naming read (out ++ rest) old stages end) × ((more ≡ []) ⊎ (whole.rest ≡ []))
      × ButTheLast g naming old whole.items (out ++ rest) (IsHeard (length out)))
  pub drops : DropsStreams g end.archive new
  pub found : IsFoundAfterAStop g old stages end new
  pub lost : HasRisen t.lost t.lost'

-- Whether a session answered to the end, or why it did not: on Ok all of the input was read and answered; if it could not be read on, the
-- commands that are whole in the bytes that were read were answered; if the output failed, the session stops unheard. In each case the
-- stages give the cases that an opening finds after a stop.
abbrev pub SessionEnds : {D : Type 0} → disk.Ghosts D → Naming → Streams → Stage D → Parts D → Result (Unit {0}) SessionFault → Type 0
SessionEnds {D} g naming t old new (Ok u) =
    (read : List ℕ) × (out : List ℕ) × (stages : List (Stage D)) × (end : Stage D) × Consumes t.input t.input' read × IsAtEnd t.input' × Appends t.taken t.taken' out
    × AnswersAll g naming read out old stages end × DropsStreams g end.archive new × IsFoundAfterAStop g old stages end new
SessionEnds {D} g naming t old new (Err ReadFailed) =
    (read : List ℕ) × (out : List ℕ) × (stages : List (Stage D)) × (end : Stage D) × Consumes t.input t.input' read × Appends t.taken t.taken' out
    × AnswersWhole g naming read out old stages end × DropsStreams g end.archive new × IsFoundAfterAStop g old stages end new × HasRisen t.fails t.fails'
SessionEnds {D} g naming t old new (Err TooManyReads) =
    (read : List ℕ) × (out : List ℕ) × (stages : List (Stage D)) × (end : Stage D) × Consumes t.input t.input' read × Appends t.taken t.taken' out
    × AnswersWhole g naming read out old stages end × DropsStreams g end.archive new × IsFoundAfterAStop g old stages end new × (2 ^ 40 ≤ length read)
SessionEnds {D} g naming t old new (Err WriteFailed) = StopsUnheard g naming t old new
