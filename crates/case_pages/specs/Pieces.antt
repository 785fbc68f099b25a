-- The pieces of a page.
use Rattle.std.specs.Prelude.{ℕ, ◌/◌, ◌%◌, List, ◌++◌, codes, decimal}
use Rattle.std.specs.List.{flat_map}
use Rattle.case_pages.specs.Escaping.{escape}
use Rattle.case_pages.specs.Names.{attribute_name, tag_name}
use Rattle.case_pages.specs.declared.attributes.Attribute.{Attribute}
use Rattle.case_pages.specs.declared.attributes.Value.{Value}
use Rattle.case_pages.specs.declared.attributes.Value.TheVariants.{Box, Case, Constant, LinkToCase, Number, Tenths, Triangle}
use Rattle.case_pages.specs.declared.tags.Tag.{Tag}

abbrev pub digits : ℕ → List ℕ
digits n = decimal n

-- a box from 0 0 on
abbrev pub box_bytes : ℕ → ℕ → List ℕ
box_bytes width height = codes "0 0 " ++ (digits width ++ (codes " " ++ digits height))

-- a number of tenths
abbrev pub tenths_bytes : ℕ → List ℕ
tenths_bytes n = digits (n / 10) ++ (codes "." ++ digits (n % 10))

-- a triangle that points down to a place: its point, and from there the two other corners
abbrev pub triangle_bytes : ℕ → ℕ → List ℕ
triangle_bytes right down = codes "M" ++ (tenths_bytes right ++ (codes " " ++ (tenths_bytes down ++ codes "l-5 -7 h10 z")))

-- the bytes of the value of an attribute
abbrev pub value_bytes : Value → List ℕ
value_bytes (Constant text) = text.now
value_bytes (Number n) = digits n
value_bytes (Case n) = codes "case-" ++ digits n
value_bytes (LinkToCase n) = codes "#case-" ++ digits n
value_bytes (Box width height) = box_bytes width height
value_bytes (Tenths n) = tenths_bytes n
value_bytes (Triangle right down) = triangle_bytes right down

-- an attribute after the name of its tag, or after another
abbrev pub attribute_text : Attribute → List ℕ
attribute_text a = codes " " ++ (attribute_name a.name ++ (codes "=\"" ++ (escape (value_bytes a.value) ++ codes "\"")))

abbrev pub attributes_text : List Attribute → List ℕ
attributes_text attributes = flat_map attribute_text attributes

-- the start tag of an element
abbrev pub start_text : Tag → List Attribute → List ℕ
start_text tag attributes = codes "<" ++ (tag_name tag ++ (attributes_text attributes ++ codes ">"))

-- the end tag of an element
abbrev pub end_text : Tag → List ℕ
end_text tag = codes "</" ++ (tag_name tag ++ codes ">")
