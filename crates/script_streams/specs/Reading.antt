-- The bytes that a script's reader has given of those that it held and read.
use Rattle.std.specs.Prelude.{◌≡◌, ℕ, ◌+◌, ◌-◌, ◌*◌, ◌^◌, ◌<◌, ◌≤◌, List, [], ◌∷◌, ◌++◌, length, take, drop, Option, Result, Ok, Err}
use Rattle.std.specs.Io.KnownBytes.{Consumes, IsAtEnd}
use Rattle.diagnostics.specs.Counts.{HasRisen}
use Rattle.script_streams.specs.Lines.{IsLine, KeepsLine}
use Rattle.script_streams.specs.declared.kept_line.KeptLine.{KeptLine}
use Rattle.script_streams.specs.declared.reader.ScriptBuffer.{ScriptBuffer}
use Rattle.script_streams.specs.declared.reader.LineEnding.{LineEnding}
use Rattle.script_streams.specs.declared.reader.LineEnding.TheVariants.{Newline, EndOfInput, NothingLeft}
use Rattle.script_streams.specs.declared.reader.ReadStop.{ReadStop}
use Rattle.script_streams.specs.declared.reader.ReadStop.TheVariants.{ReadFailed, TooManyReads}

-- the bytes that were read and not given yet
abbrev pub held_bytes : ScriptBuffer → List ℕ
held_bytes buffer = take (buffer.end - buffer.start) (drop buffer.start buffer.bytes)

-- how many reads gave a byte
abbrev pub reads_made : ScriptBuffer → ℕ
reads_made buffer = buffer.reads

-- a bound on the bytes that can still be given: each read gives at most 65,536
abbrev pub steps_left : ScriptBuffer → ℕ
steps_left buffer = (2 ^ 40 - buffer.reads) * 65537 + (buffer.end - buffer.start)

-- Between two moments of an input and of its buffer exactly these bytes were given, in order: none was lost, and none was made up
pub record Gives (before after : Option (List ℕ)) (old new : ScriptBuffer) (given : List ℕ) : Type 0 where
  pub read : List ℕ
  pub consumed : Consumes before after read
  pub bytes : held_bytes old ++ read ≡ given ++ held_bytes new
  pub counted : reads_made new ≤ reads_made old + length read
  pub steps : steps_left new + length given ≤ steps_left old

-- nothing is held and the input has ended
abbrev pub IsUsedUp : Option (List ℕ) → ScriptBuffer → Type 0
IsUsedUp after buffer = IsAtEnd after × (held_bytes buffer ≡ [])

-- the next line: all before the next newline, or at the end of the input all that is left. If reading stopped, the bytes since the last
-- newline are gone, and no newline is among them.
abbrev pub GivesLine : Option (List ℕ) → Option (List ℕ) → ScriptBuffer → ScriptBuffer → KeptLine
    → Result LineEnding ReadStop → Type 0
GivesLine before after old new kept (Ok Newline) =
    (line : List ℕ) × IsLine line × KeepsLine line kept × Gives before after old new (line ++ 10 ∷ [])
GivesLine before after old new kept (Ok EndOfInput) =
    (line : List ℕ) × IsLine line × KeepsLine line kept × (0 < length line)
    × Gives before after old new line × IsUsedUp after new
GivesLine before after old new kept (Ok NothingLeft) =
    Gives before after old new [] × IsUsedUp after new
GivesLine before after old new kept (Err stop) =
    (front : List ℕ) × IsLine front × Gives before after old new front × (held_bytes new ≡ [])

-- the next bytes of a part: those at the front of `into`, none only at the end of the input
abbrev pub GivesRaw : Option (List ℕ) → Option (List ℕ) → ScriptBuffer → ScriptBuffer → List ℕ → Result ℕ ReadStop → Type 0
GivesRaw before after old new into (Ok n) =
    (n ≤ length into) × Gives before after old new (take n into) × (n ≡ 0 → IsUsedUp after new)
GivesRaw before after old new into (Err stop) =
    Gives before after old new [] × (held_bytes new ≡ [])

-- why reading stopped, if it did: the input failed in this call; or 2^40 reads were made, each of which gave a byte
abbrev pub Stops : {T : Type 0} → ℕ → ℕ → ScriptBuffer → Result T ReadStop → Type 0
Stops before after new (Ok value) = after ≡ before
Stops before after new (Err ReadFailed) = HasRisen before after
Stops before after new (Err TooManyReads) = (after ≡ before) × (reads_made new ≡ 2 ^ 40)
