-- Pages while they are written.
use Rattle.std.specs.Prelude.{◌≡◌, ℕ, Bool, true, false, not, ◌==◌, ◌&&◌, List, [], ◌∷◌, ◌++◌, map, reverse, Some, if◌then◌else◌}
use Rattle.std.specs.List.{list_all}
use Rattle.case_pages.specs.Html.{Place, Token, in_attributes, in_name, in_reference, in_text, nested, nowhere, read, tag}
use Rattle.case_pages.specs.Names.{tag_name}
use Rattle.case_pages.specs.declared.tags.Tag.{Tag}

-- the names of open elements, the innermost first
abbrev pub names : List Tag → List (List ℕ)
names outer = map tag_name (reverse outer)

-- whether a reader is outside tags and references
abbrev pub is_in_text : Place → Bool
is_in_text in_text = true
is_in_text (in_reference r) = false
is_in_text (in_name n) = false
is_in_text (in_attributes n quoted a) = false
is_in_text nowhere = false

-- The bytes are read, and these elements are open behind them.
pub record IsFront (text : List ℕ) (outer : List Tag) : Type 0 where
  pub reads : is_in_text (read in_text text).0 ≡ true
  pub nests : nested (Some []) (read in_text text).1 ≡ Some (names outer)

-- A page goes on by bytes that are read as these tokens.
pub record GoesOn (text : List ℕ) (outer : List Tag) (text' : List ℕ) (outer' : List Tag) (tokens : List Token) : Type 0 where
  pub piece : List ℕ
  pub written : text' ≡ text ++ piece
  pub reads : read in_text piece ≡ (in_text, tokens)
  pub nests : nested (Some (names outer)) tokens ≡ Some (names outer')

-- A whole page: its bytes are read, behind them no element is open, and each end tag was that of the innermost element.
pub record IsPage (text : List ℕ) : Type 0 where
  pub tokens : List Token
  pub reads : read in_text text ≡ (in_text, tokens)
  pub nests : nested (Some []) tokens ≡ Some []

-- the token that ends the innermost element
abbrev pub end_of_first : List (List ℕ) → List Token
end_of_first [] = []
end_of_first (name ∷ others) = tag (47 ∷ name) [] ∷ []

abbrev pub end_tokens : List Tag → List Token
end_tokens outer = end_of_first (names outer)

-- A byte that ends no style.
abbrev pub is_style_byte : ℕ → Bool
is_style_byte c = not (c == 60) && not (c == 38)

-- the text of a style that is written: nothing, if it has a byte that could end it
abbrev pub style : List ℕ → List ℕ
style text = if list_all is_style_byte text then text else []
