-- The values that a search that is fed window by window has seen.
use Rattle.std.specs.Prelude.{◌≡◌, ℕ, ◌+◌, ◌-◌, List, length}
use Rattle.windowed_search.specs.Places.{last_of}
use Rattle.windowed_search.specs.declared.search.Search.{Search}

-- The search was fed these bytes, from place `base` on: it keeps the last of them, one fewer than the needle has, and knows their place.
pub record WasFed (s : Search) (base : ℕ) (xs : List ℕ) : Type 0 where
  pub tail : s.tail.items ≡ last_of (length s.needle.now - 1) xs
  pub first : s.first ≡ base + (length xs - (length s.needle.now - 1))
