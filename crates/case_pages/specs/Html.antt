-- The language of pages: a part of HTML's. It is read byte by byte.
use Rattle.std.specs.Prelude.{ℕ, Bool, false, not, ◌==◌, ◌&&◌, ◌||◌, List, [], ◌∷◌, ◌++◌, Option, None, Some, codes, if◌then◌else◌}
use Rattle.std.specs.Str.{bytes_eq}

-- The tokens that are read of a page, one after the other: a tag by its name and the bytes of its attributes, where the name of an end tag
-- has a `/` before it; or a character.
pub data Token : Type 0 where
  tag : List ℕ → List ℕ → Token
  char : ℕ → Token

-- where a reader is in a page
pub data Place : Type 0 where
  -- outside tags and references
  in_text : Place
  -- behind `&` and these bytes
  in_reference : List ℕ → Place
  -- behind `<` and these bytes
  in_name : List ℕ → Place
  -- behind `<`, this name, a space and these bytes; and whether that is between quotes
  in_attributes : List ℕ → Bool → List ℕ → Place
  -- after a reference that isn't one of the five
  nowhere : Place

-- the place of a reader after a byte, and the tokens that it has read with it
abbrev pub Step : Type 0
Step = Place × List Token

abbrev pub is_char : ℕ → Step
is_char c = (in_text, char c ∷ [])

-- behind the `;` of a reference: its character
abbrev pub referred : List ℕ → Step
referred r =
    if bytes_eq r (codes "amp") then is_char 38
    else (if bytes_eq r (codes "lt") then is_char 60
    else (if bytes_eq r (codes "gt") then is_char 62
    else (if bytes_eq r (codes "quot") then is_char 34
    else (if bytes_eq r (codes "#39") then is_char 39
    else (nowhere, [])))))

abbrev pub step : Place → ℕ → Step
step in_text c = if c == 60 then (in_name [], []) else (if c == 38 then (in_reference [], []) else is_char c)
step (in_reference r) c = if c == 59 then referred r else (in_reference (r ++ c ∷ []), [])
step (in_name n) c =
    if c == 62 then (in_text, tag n [] ∷ [])
    else (if c == 32 then (in_attributes n false [], []) else (in_name (n ++ c ∷ []), []))
-- A `>` between quotes is a byte of the value.
step (in_attributes n quoted a) c =
    if c == 34 then (in_attributes n (not quoted) (a ++ c ∷ []), [])
    else (if c == 62 && not quoted then (in_text, tag n a ∷ []) else (in_attributes n quoted (a ++ c ∷ []), []))
step nowhere c = (nowhere, [])

-- the tokens after one more step
abbrev pub onward : List Token → Step → Step
onward ts s = (s.0, ts ++ s.1)

-- the place of a reader after bytes, and the tokens that it has read with them
abbrev pub read : Place → List ℕ → Step
read p [] = (p, [])
read p (c ∷ cs) = onward (step p c).1 (read (step p c).0 cs)

-- the characters of a text
abbrev pub chars : List ℕ → List Token
chars [] = []
chars (c ∷ cs) = char c ∷ chars cs

-- An element that has no end tag, or the doctype.
abbrev pub is_void : List ℕ → Bool
is_void name = bytes_eq name (codes "meta") || bytes_eq name (codes "!DOCTYPE")

-- Elements that are open, the innermost first, behind the end tag of this name.
abbrev pub closed : List (List ℕ) → List ℕ → Option (List (List ℕ))
closed [] name = None
closed (first ∷ others) name = if bytes_eq first name then Some others else None

abbrev pub nest_tag : List (List ℕ) → List ℕ → Option (List (List ℕ))
nest_tag outer [] = None
nest_tag outer (c ∷ cs) = if c == 47 then closed outer cs else (if is_void (c ∷ cs) then Some outer else Some ((c ∷ cs) ∷ outer))

-- The elements that are open behind a token; none if an end tag is not that of the innermost.
abbrev pub nest : Option (List (List ℕ)) → Token → Option (List (List ℕ))
nest None t = None
nest (Some outer) (tag name attributes) = nest_tag outer name
nest (Some outer) (char c) = Some outer

abbrev pub nested : Option (List (List ℕ)) → List Token → Option (List (List ℕ))
nested outer [] = outer
nested outer (t ∷ ts) = nested (nest outer t) ts

-- the tags among tokens
abbrev pub tags : List Token → List Token
tags [] = []
tags (tag name attributes ∷ ts) = tag name attributes ∷ tags ts
tags (char c ∷ ts) = tags ts
