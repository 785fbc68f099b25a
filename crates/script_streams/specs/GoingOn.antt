-- One step of reading a line of which `front` is kept already.
use Rattle.std.specs.Prelude.{◌≡◌, ℕ, ◌<◌, List, [], ◌∷◌, ◌++◌, length, Option, None, Some, Result, Ok, Err, Bool, true, false}
use Rattle.script_streams.specs.Lines.{IsLine, KeepsLine}
use Rattle.script_streams.specs.Reading.{held_bytes, Gives, IsUsedUp}
use Rattle.script_streams.specs.declared.kept_line.KeptLine.{KeptLine}
use Rattle.script_streams.specs.declared.reader.ScriptBuffer.{ScriptBuffer}
use Rattle.script_streams.specs.declared.reader.LineEnding.{LineEnding}
use Rattle.script_streams.specs.declared.reader.LineEnding.TheVariants.{Newline, EndOfInput, NothingLeft}
use Rattle.script_streams.specs.declared.reader.ReadStop.{ReadStop}

-- the line continues by a piece that a newline ended, or nothing was held any more
abbrev pub TakesLine : List ℕ → ScriptBuffer → ScriptBuffer → KeptLine → Bool → Type 0
TakesLine front old new kept true =
    (piece : List ℕ) × IsLine piece × KeepsLine (front ++ piece) kept
    × ((a : Option (List ℕ)) → Gives a a old new (piece ++ 10 ∷ []))
TakesLine front old new kept false =
    (piece : List ℕ) × IsLine piece × KeepsLine (front ++ piece) kept
    × ((a : Option (List ℕ)) → Gives a a old new piece)

-- the line continues by a piece, up to its end or to the end of the bytes that were read now
abbrev pub GoesOn : List ℕ → Option (List ℕ) → Option (List ℕ) → ScriptBuffer → ScriptBuffer → KeptLine
    → Result (Option LineEnding) ReadStop → Type 0
GoesOn front before after old new kept (Ok None) =
    (piece : List ℕ) × IsLine piece × KeepsLine (front ++ piece) kept × Gives before after old new piece
GoesOn front before after old new kept (Ok (Some Newline)) =
    (piece : List ℕ) × IsLine piece × KeepsLine (front ++ piece) kept × Gives before after old new (piece ++ 10 ∷ [])
GoesOn front before after old new kept (Ok (Some EndOfInput)) =
    (piece : List ℕ) × IsLine piece × KeepsLine (front ++ piece) kept × (0 < length (front ++ piece))
    × Gives before after old new piece × IsUsedUp after new
GoesOn front before after old new kept (Ok (Some NothingLeft)) =
    (piece : List ℕ) × (front ++ piece ≡ []) × Gives before after old new piece × IsUsedUp after new
GoesOn front before after old new kept (Err stop) =
    (piece : List ℕ) × IsLine piece × Gives before after old new piece × (held_bytes new ≡ [])
