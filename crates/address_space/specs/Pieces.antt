-- The pieces of a range of addresses: its parts of one place, each as long as it can be.
use Rattle.std.specs.Prelude.{ℕ, zero, suc, ◌+◌, ◌==◌, ◌&&◌, if◌then◌else◌, Bool, true, false, List, [], ◌∷◌, map, Option, None, Some}
use Rattle.elf_view.specs.Field.{part}
use Rattle.address_space.specs.Source.{Space, Place, nowhere, dumped, cut_off, unwritten, in_file, place_at, Content, content_by}

-- whether two items of one list, with their numbers, are the same
abbrev pub same_number : {A : Type 0} → Option (ℕ × A) → Option (ℕ × A) → Bool
same_number None None = true
same_number None (Some y) = false
same_number (Some x) None = false
same_number (Some x) (Some y) = x.0 == y.0

-- Two places are one if kind, deciding segment and, for those that are not dumped, the entry of NT_FILE are the same.
abbrev pub is_same : Place → Place → Bool
is_same nowhere nowhere = true
is_same (dumped i s) (dumped j t) = i == j
is_same (cut_off i) (cut_off j) = i == j
is_same (unwritten i e) (unwritten j f) = i == j && same_number e f
is_same (in_file i e x) (in_file j f y) = i == j && e.0 == f.0
is_same p q = false

-- an address before some parts: it joins the first of them or is a part by itself
abbrev pub grown : (ℕ → ℕ → Bool) → ℕ → List (ℕ × ℕ) → List (ℕ × ℕ)
grown same a [] = (a, 1) ∷ []
grown same a (x ∷ xs) = if same a x.0 then (a, x.1 + 1) ∷ xs else (a, 1) ∷ x ∷ xs

-- the parts of n addresses from a on, each by its first address and its length: neighbours are in one part if and only if they are the same
unfoldable pub stretches : (ℕ → ℕ → Bool) → ℕ → ℕ → List (ℕ × ℕ)
stretches same a zero = []
stretches same a (suc n) = grown same a (stretches same (a + 1) n)

pub record PieceView : Type 0 where
  pub first : ℕ
  pub length : ℕ
  pub content : Content (List ℕ)

-- the content of n addresses of one place from a on
abbrev pub content_from : Space → ℕ → ℕ → Content (List ℕ)
content_from space a n = content_by (λ bytes k. part bytes k n) a (place_at space a)

abbrev pub piece_of : Space → ℕ × ℕ → PieceView
piece_of space x = record { first = x.0; length = x.1; content = content_from space x.0 x.1 }

abbrev pub is_same_at : Space → ℕ → ℕ → Bool
is_same_at space a b = is_same (place_at space a) (place_at space b)

-- the pieces of n addresses from a on, in rising order
unfoldable pub pieces_of : Space → ℕ → ℕ → List PieceView
pieces_of space a n = map (piece_of space) (stretches (is_same_at space) a n)
