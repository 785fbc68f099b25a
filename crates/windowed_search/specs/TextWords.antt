-- The texts that a search of a memory has found.
use Rattle.std.specs.Prelude.{◌≡◌, ◌≤◌, ◌<◌, ◌⊎◌, ℕ, ◌+◌, ◌-◌, ◌^◌, true, false, List, ◌++◌, filter, length, map}
use Rattle.std.specs.List.{AllByRecursion, flat_map, range_with_len}
use Rattle.address_space.specs.Coverage.{IsText}
use Rattle.address_space.specs.Occurrence.{begins_text, is_long, is_text_at, text_from}
use Rattle.address_space.specs.Source.{Space}
use Rattle.windowed_search.specs.Runs.{values_from}
use Rattle.windowed_search.specs.TextBytes.{AreOf}
use Rattle.windowed_search.specs.declared.memory_texts.FoundTexts.{FoundTexts}
use Rattle.windowed_search.specs.declared.memory_texts.MemoryTexts.{MemoryTexts}

-- none of n addresses from a on has a byte of text
abbrev pub NoText : Space → ℕ → ℕ → Type 0
NoText space a n = (b : ℕ) → a ≤ b → b < a + n → is_text_at space b ≡ false

-- every text of at least that length that begins before an address
abbrev pub texts_before : Space → ℕ → ℕ → List (ℕ × ℕ)
texts_before space least a = filter (is_long least) (map (text_from space) (filter (begins_text space) (range_with_len 0 a)))

-- the bytes of a text, by its first address and its length
abbrev pub text_values : Space → ℕ × ℕ → List ℕ
text_values space x = values_from space x.0 x.1

-- The search was given all addresses below the next. Those before `start` have these texts, with these bytes; those from there on have
-- bytes of text, and no such byte is right before them.
pub record HasTexts (space : Space) (m : MemoryTexts) : Type 0 where
  pub start : ℕ
  pub kept : List ℕ
  pub text : List ℕ
  pub joined : start + length text ≡ m.address
  pub count : length text ≡ m.count
  pub bytes : m.bytes.items ≡ kept ++ text
  pub values : values_from space start (length text) ≡ text
  pub all_text : AreOf true text
  pub first : (start ≡ 0) ⊎ (is_text_at space (start - 1) ≡ false)
  pub told : m.found.items ≡ texts_before space m.least start
  pub lent : kept ≡ flat_map (text_values space) m.found.items

-- These are all texts of at least that length that begin before an address, with their bytes.
pub record AreTexts (space : Space) (least past : ℕ) (t : FoundTexts) : Type 0 where
  pub told : t.places.items ≡ texts_before space least past
  pub lent : t.bytes.items ≡ flat_map (text_values space) t.places.items

-- Each is as long as can be: no byte of text is right before it or right behind it.
abbrev pub TextsAreWhole : Type 0
TextsAreWhole = (space : Space) (least past : ℕ) (t : FoundTexts) → past ≤ 2 ^ 64 → AreTexts space least past t → AllByRecursion (λ (x : ℕ × ℕ). IsText space x.0 x.1) t.places.items
