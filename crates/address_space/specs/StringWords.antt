-- The meaning of the code's iterator over texts.
use Rattle.std.specs.Prelude.{ℕ, List}
use Rattle.address_space.specs.Occurrence.{begins_text}
use Rattle.address_space.specs.FindWords.{left_from, texts_from}
use Rattle.address_space.specs.SpaceWords.{space_of}
use Rattle.address_space.specs.declared.strings.Strings.{Strings}

-- the texts that are still to come
abbrev pub strings_left : Strings → List (ℕ × ℕ)
strings_left s = texts_from (space_of s.space.now) s.least (left_from (space_of s.space.now) (begins_text (space_of s.space.now)) s.cursor)
