-- Bytes of text, and others.
use Rattle.std.specs.Prelude.{◌≡◌, ℕ, ◌+◌, not, if◌then◌else◌, Bool, true, false, List, [], ◌∷◌, ⊤}
use Rattle.address_space.specs.Occurrence.{is_text_byte}

-- a byte of text, or, if that is asked, any other
abbrev pub is_of : Bool → ℕ → Bool
is_of true x = is_text_byte x
is_of false x = not (is_text_byte x)

-- how many such bytes come first
unfoldable pub front_len : Bool → List ℕ → ℕ
front_len text [] = 0
front_len text (x ∷ xs) = if is_of text x then front_len text xs + 1 else 0

-- bytes of text alone, or none of text
abbrev pub AreOf : Bool → List ℕ → Type 0
AreOf text [] = ⊤
AreOf text (x ∷ xs) = (is_of text x ≡ true) × AreOf text xs
