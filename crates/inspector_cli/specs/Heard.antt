-- How much of a session's text is heard: a reply is held until there is no room for it, or more of the script must be read.
use Rattle.std.specs.Prelude.{◌≡◌, ℕ, ◌+◌, ◌≤◌, List, [], length, Option, false}
use Rattle.script_streams.specs.Replies.{Printing}
use Rattle.script_streams.specs.Printing.{Sink, Told, Prints}

-- no write has failed, and little is held
pub record IsReady (s : Sink) : Type 0 where
  pub unfailed : s.unwritten.failed ≡ false
  pub few : length s.unwritten.held.items ≤ 8192

-- a text is printed, before which no write has failed
pub record PrintsReady (t : Printing) (text : List ℕ) : Type 0 where
  pub from : Sink
  pub before : Prints t.before from []
  pub ready : IsReady from
  pub states : Prints from t.after text

-- Of the whole text, the output has taken this front, and at most 8,192 bytes are missing.
abbrev pub TakesFrontOf : Printing → List ℕ → List ℕ → Type 0
TakesFrontOf t all front =
    (start : Option (List ℕ)) (count name : ℕ) → Told start count name t.before [] → (told : Told start count name t.after all) × (length front ≤ length told.out + 8192)
