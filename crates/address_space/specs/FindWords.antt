-- The meaning of the code's iterators over matches and strings.
use Rattle.std.specs.Prelude.{ℕ, Bool, List, [], Option, None, Some, map, filter}
use Rattle.address_space.specs.Source.{Space}
use Rattle.address_space.specs.Occurrence.{occurs, is_long, text_from}
use Rattle.address_space.specs.CursorWords.{to_come}
use Rattle.address_space.specs.SpaceWords.{space_of}
use Rattle.address_space.specs.declared.cursor.Cursor.{Cursor}
use Rattle.address_space.specs.declared.find.Matches.{Matches}

-- the addresses that are still to come and pass the test; no cursor, none
abbrev pub left_from : Space → (ℕ → Bool) → Option Cursor → List ℕ
left_from space test None = []
left_from space test (Some c) = to_come space test c

-- the matches that are still to come
abbrev pub matches_left : Matches → List ℕ
matches_left m = left_from (space_of m.space.now) (occurs (space_of m.space.now) m.needle.now) m.cursor

-- the texts that begin at these addresses, of at least that length
abbrev pub texts_from : Space → ℕ → List ℕ → List (ℕ × ℕ)
texts_from space least starts = filter (is_long least) (map (text_from space) starts)
