-- How tags are read, and which elements are open behind them.
use Rattle.std.proofs.Common.{◌≡◌, ℕ, true, false, cond, List, [], ◌∷◌, ◌++◌, codes, drop, Option, Some, refl, sym, ap, ◌∙◌}
use Rattle.std.proofs.lemmas.List.{append_assoc, append-nil}
use Rattle.std.specs.List.{list_all}
use Rattle.case_pages.specs.Escaping.{escape}
use Rattle.case_pages.specs.Html.{Place, Token, chars, in_attributes, in_name, in_text, is_void, nest, nested, read, tag}
use Rattle.case_pages.specs.Names.{attribute_name, tag_name}
use Rattle.case_pages.specs.Pieces.{attribute_text, attributes_text, end_text, start_text, value_bytes}
use Rattle.case_pages.specs.declared.attributes.Attribute.{Attribute}
use Rattle.case_pages.specs.declared.attributes.AttributeName.{AttributeName}
use Rattle.case_pages.specs.declared.attributes.AttributeName.TheVariants as names
use Rattle.case_pages.specs.declared.tags.Tag.{Tag}
use Rattle.case_pages.specs.declared.tags.Tag.TheVariants as elements
use Rattle.case_pages.proofs.EscapeLemmas.{value_escape}
use Rattle.case_pages.proofs.ReadingLemmas.{is_name_byte, is_value_byte, name_read, reads_then, value_read}

tag_is_name : (t : Tag) → list_all is_name_byte (tag_name t) ≡ true
tag_is_name elements.Html = refl
tag_is_name elements.Head = refl
tag_is_name elements.Meta = refl
tag_is_name elements.Title = refl
tag_is_name elements.Style = refl
tag_is_name elements.Body = refl
tag_is_name elements.Main = refl
tag_is_name elements.Header = refl
tag_is_name elements.Section = refl
tag_is_name elements.Footer = refl
tag_is_name elements.H1 = refl
tag_is_name elements.H2 = refl
tag_is_name elements.H3 = refl
tag_is_name elements.P = refl
tag_is_name elements.Ul = refl
tag_is_name elements.Li = refl
tag_is_name elements.Dl = refl
tag_is_name elements.Dt = refl
tag_is_name elements.Dd = refl
tag_is_name elements.Div = refl
tag_is_name elements.Span = refl
tag_is_name elements.B = refl
tag_is_name elements.I = refl
tag_is_name elements.Small = refl
tag_is_name elements.Code = refl
tag_is_name elements.A = refl
tag_is_name elements.Table = refl
tag_is_name elements.Thead = refl
tag_is_name elements.Tbody = refl
tag_is_name elements.Tr = refl
tag_is_name elements.Th = refl
tag_is_name elements.Td = refl
tag_is_name elements.Figure = refl
tag_is_name elements.Figcaption = refl
tag_is_name elements.Svg = refl
tag_is_name elements.Rect = refl
tag_is_name elements.Line = refl
tag_is_name elements.Path = refl
tag_is_name elements.Text = refl

name_is_value : (n : AttributeName) → list_all is_value_byte (attribute_name n) ≡ true
name_is_value names.Class = refl
name_is_value names.Id = refl
name_is_value names.Href = refl
name_is_value names.Scope = refl
name_is_value names.Colspan = refl
name_is_value names.Lang = refl
name_is_value names.Charset = refl
name_is_value names.Name = refl
name_is_value names.Content = refl
name_is_value names.HttpEquiv = refl
name_is_value names.ViewBox = refl
name_is_value names.Role = refl
name_is_value names.AriaLabel = refl
name_is_value names.X = refl
name_is_value names.Y = refl
name_is_value names.X1 = refl
name_is_value names.X2 = refl
name_is_value names.Y1 = refl
name_is_value names.Y2 = refl
name_is_value names.Width = refl
name_is_value names.Height = refl
name_is_value names.D = refl

-- the elements that are open behind a start tag
pub start_nests : (t : Tag) (outer : List (List ℕ)) (a : List ℕ) → nest (Some outer) (tag (tag_name t) a) ≡ Some (cond (is_void (tag_name t)) outer (tag_name t ∷ outer))
start_nests elements.Html outer a = refl
start_nests elements.Head outer a = refl
start_nests elements.Meta outer a = refl
start_nests elements.Title outer a = refl
start_nests elements.Style outer a = refl
start_nests elements.Body outer a = refl
start_nests elements.Main outer a = refl
start_nests elements.Header outer a = refl
start_nests elements.Section outer a = refl
start_nests elements.Footer outer a = refl
start_nests elements.H1 outer a = refl
start_nests elements.H2 outer a = refl
start_nests elements.H3 outer a = refl
start_nests elements.P outer a = refl
start_nests elements.Ul outer a = refl
start_nests elements.Li outer a = refl
start_nests elements.Dl outer a = refl
start_nests elements.Dt outer a = refl
start_nests elements.Dd outer a = refl
start_nests elements.Div outer a = refl
start_nests elements.Span outer a = refl
start_nests elements.B outer a = refl
start_nests elements.I outer a = refl
start_nests elements.Small outer a = refl
start_nests elements.Code outer a = refl
start_nests elements.A outer a = refl
start_nests elements.Table outer a = refl
start_nests elements.Thead outer a = refl
start_nests elements.Tbody outer a = refl
start_nests elements.Tr outer a = refl
start_nests elements.Th outer a = refl
start_nests elements.Td outer a = refl
start_nests elements.Figure outer a = refl
start_nests elements.Figcaption outer a = refl
start_nests elements.Svg outer a = refl
start_nests elements.Rect outer a = refl
start_nests elements.Line outer a = refl
start_nests elements.Path outer a = refl
start_nests elements.Text outer a = refl

-- and behind the end tag of the innermost
pub end_nests : (t : Tag) (outer : List (List ℕ)) (a : List ℕ) → nest (Some (tag_name t ∷ outer)) (tag (47 ∷ tag_name t) a) ≡ Some outer
end_nests elements.Html outer a = refl
end_nests elements.Head outer a = refl
end_nests elements.Meta outer a = refl
end_nests elements.Title outer a = refl
end_nests elements.Style outer a = refl
end_nests elements.Body outer a = refl
end_nests elements.Main outer a = refl
end_nests elements.Header outer a = refl
end_nests elements.Section outer a = refl
end_nests elements.Footer outer a = refl
end_nests elements.H1 outer a = refl
end_nests elements.H2 outer a = refl
end_nests elements.H3 outer a = refl
end_nests elements.P outer a = refl
end_nests elements.Ul outer a = refl
end_nests elements.Li outer a = refl
end_nests elements.Dl outer a = refl
end_nests elements.Dt outer a = refl
end_nests elements.Dd outer a = refl
end_nests elements.Div outer a = refl
end_nests elements.Span outer a = refl
end_nests elements.B outer a = refl
end_nests elements.I outer a = refl
end_nests elements.Small outer a = refl
end_nests elements.Code outer a = refl
end_nests elements.A outer a = refl
end_nests elements.Table outer a = refl
end_nests elements.Thead outer a = refl
end_nests elements.Tbody outer a = refl
end_nests elements.Tr outer a = refl
end_nests elements.Th outer a = refl
end_nests elements.Td outer a = refl
end_nests elements.Figure outer a = refl
end_nests elements.Figcaption outer a = refl
end_nests elements.Svg outer a = refl
end_nests elements.Rect outer a = refl
end_nests elements.Line outer a = refl
end_nests elements.Path outer a = refl
end_nests elements.Text outer a = refl

-- an attribute without the space before it
abbrev body : Attribute → List ℕ
body x = attribute_name x.name ++ (codes "=\"" ++ (escape (value_bytes x.value) ++ codes "\""))

keeps : (p q r : Place) (a b : List ℕ) → read p a ≡ (q, []) → read q b ≡ (r, []) → read p (a ++ b) ≡ (r, [])
keeps p q r a b first then = reads_then p q r a b [] [] first then

joined_four : (a n e v : List ℕ) → (((a ++ n) ++ codes "=\"") ++ v) ++ codes "\"" ≡ a ++ (n ++ (codes "=\"" ++ (v ++ codes "\"")))
joined_four a n e v =
    append_assoc ((a ++ n) ++ codes "=\"") v (codes "\"")
    ∙ append_assoc (a ++ n) (codes "=\"") (v ++ codes "\"")
    ∙ append_assoc a n (codes "=\"" ++ (v ++ codes "\""))

body_read : (n a : List ℕ) (x : Attribute) → read (in_attributes n false a) (body x) ≡ (in_attributes n false (a ++ body x), [])
body_read n a x =
    let name = attribute_name x.name in
    let value = escape (value_bytes x.value) in
    keeps (in_attributes n false a) (in_attributes n false (a ++ name)) (in_attributes n false ((((a ++ name) ++ codes "=\"") ++ value) ++ codes "\"")) name (codes "=\"" ++ (value ++ codes "\""))
    (value_read n false a name (name_is_value x.name))
    (keeps (in_attributes n false (a ++ name)) (in_attributes n true ((a ++ name) ++ codes "=\"")) (in_attributes n false ((((a ++ name) ++ codes "=\"") ++ value) ++ codes "\"")) (codes "=\"") (value ++ codes "\"")
    (quote_opens (a ++ name))
    (keeps (in_attributes n true ((a ++ name) ++ codes "=\"")) (in_attributes n true (((a ++ name) ++ codes "=\"") ++ value)) (in_attributes n false ((((a ++ name) ++ codes "=\"") ++ value) ++ codes "\"")) value (codes "\"")
    (value_read n true ((a ++ name) ++ codes "=\"") value (value_escape (value_bytes x.value)))
    refl))
    ∙ ap (λ (b : List ℕ). (in_attributes n false b, [])) (joined_four a name [] value)
  where
    quote_opens : (b : List ℕ) → read (in_attributes n false b) (codes "=\"") ≡ (in_attributes n true (b ++ codes "=\""), [])
    quote_opens b = ap (λ (m : List ℕ). (in_attributes n true m, [])) (append_assoc b (codes "=") (codes "\""))

attribute_read : (n a : List ℕ) (x : Attribute) → read (in_attributes n false a) (attribute_text x) ≡ (in_attributes n false (a ++ attribute_text x), [])
attribute_read n a x =
    body_read n (a ++ codes " ") x ∙ ap (λ (b : List ℕ). (in_attributes n false b, [])) (append_assoc a (codes " ") (body x))

others_read : (n a : List ℕ) (xs : List Attribute) → read (in_attributes n false a) (attributes_text xs) ≡ (in_attributes n false (a ++ attributes_text xs), [])
others_read n a [] = ap (λ (b : List ℕ). (in_attributes n false b, [])) (sym (append-nil a))
others_read n a (x ∷ xs) =
    keeps (in_attributes n false a) (in_attributes n false (a ++ attribute_text x)) (in_attributes n false ((a ++ attribute_text x) ++ attributes_text xs)) (attribute_text x) (attributes_text xs) (attribute_read n a x) (others_read n (a ++ attribute_text x) xs)
    ∙ ap (λ (b : List ℕ). (in_attributes n false b, [])) (append_assoc a (attribute_text x) (attributes_text xs))

-- what is read of a start tag
pub start_read : (t : Tag) (xs : List Attribute) → read in_text (start_text t xs) ≡ (in_text, tag (tag_name t) (drop 1 (attributes_text xs)) ∷ [])
start_read t [] =
    reads_then (in_name []) (in_name (tag_name t)) in_text (tag_name t) (codes ">") [] (tag (tag_name t) [] ∷ []) (name_read [] (tag_name t) (tag_is_name t)) refl
start_read t (x ∷ xs) =
    reads_then (in_name []) (in_name (tag_name t)) in_text (tag_name t) (attributes_text (x ∷ xs) ++ codes ">") [] (tag (tag_name t) (body x ++ attributes_text xs) ∷ []) (name_read [] (tag_name t) (tag_is_name t))
    (reads_then (in_attributes (tag_name t) false []) (in_attributes (tag_name t) false (body x ++ attributes_text xs)) in_text (body x ++ attributes_text xs) (codes ">") [] (tag (tag_name t) (body x ++ attributes_text xs) ∷ [])
    (keeps (in_attributes (tag_name t) false []) (in_attributes (tag_name t) false (body x)) (in_attributes (tag_name t) false (body x ++ attributes_text xs)) (body x) (attributes_text xs) (body_read (tag_name t) [] x) (others_read (tag_name t) (body x) xs))
    refl)

-- what is read of an end tag
pub end_read : (t : Tag) → read in_text (end_text t) ≡ (in_text, tag (47 ∷ tag_name t) [] ∷ [])
end_read t =
    reads_then (in_name (47 ∷ [])) (in_name (47 ∷ tag_name t)) in_text (tag_name t) (codes ">") [] (tag (47 ∷ tag_name t) [] ∷ []) (name_read (47 ∷ []) (tag_name t) (tag_is_name t)) refl

-- Characters open and close no element.
pub chars_nest : (outer : List (List ℕ)) (text : List ℕ) → nested (Some outer) (chars text) ≡ Some outer
chars_nest outer [] = refl
chars_nest outer (c ∷ cs) = chars_nest outer cs

pub nested_behind : (outer : Option (List (List ℕ))) (ts us : List Token) → nested outer (ts ++ us) ≡ nested (nested outer ts) us
nested_behind outer [] us = refl
nested_behind outer (t ∷ ts) us = nested_behind (nest outer t) ts us
