-- A line of a script, and the part that is kept of a line of any length.
use Rattle.std.specs.Prelude.{◌≡◌, ◌≢◌, ℕ, ◌<◌, List, length}
use Rattle.std.specs.List.{AllByRecursion}
use Rattle.script_words.specs.Words.{first_visible_of}
use Rattle.script_streams.specs.declared.kept_line.KeptLine.{KeptLine}

-- the bytes have no newline among them
abbrev pub IsLine : List ℕ → Type 0
IsLine bytes = AllByRecursion (λ c. c ≢ 10) bytes

-- the kept part shows whether the line has at most 1,024 bytes, and its first byte that is no space
pub record KeepsLine (line : List ℕ) (kept : KeptLine) : Type 0 where
  pub whole : length kept.bytes.items < 1025 → line ≡ kept.bytes.items
  pub long : length kept.bytes.items ≡ 1025 → 1024 < length line
  pub visible : kept.first_visible ≡ first_visible_of line
