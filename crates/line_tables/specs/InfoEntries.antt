-- The first debugging information entry of a unit, and its attributes (DWARF 4, 7.5.1.1, 7.5.2 and 7.5.3; versions 2 and 3 have them alike).
use Rattle.std.specs.Prelude.{ℕ, zero, suc, ◌==◌, ◌&&◌, nat_le, if◌then◌else◌, Bool, List, [], ◌∷◌, length, find, Option, None, Some}
use Rattle.std.specs.Option.{option_and_then, option_map}
use Rattle.call_frames.specs.Leb.{uleb}
use Rattle.line_tables.specs.Texts.{text, text_at, first_byte, number}
use Rattle.line_tables.specs.Abbreviations.{specification, is_end, declared_at}
use Rattle.line_tables.specs.InfoForms.{resolved, behind_value}

-- The header of a unit, from after its unit_length on: its version, 2 to 4; its debug_abbrev_offset; its address_size, 8; and the bytes
-- after it.
abbrev pub if_version : ℕ × List ℕ → Option (ℕ × List ℕ)
if_version v = if nat_le 2 v.0 && nat_le v.0 4 then Some v else None

abbrev pub if_eight : ℕ × List ℕ → Option (List ℕ)
if_eight b = if b.0 == 8 then Some b.1 else None

unfoldable pub header_in : List ℕ → Option (ℕ × ℕ × List ℕ)
header_in bytes =
    option_and_then (λ v. option_and_then (λ (p : ℕ × List ℕ). option_map (λ rest. (v.0, p.0, rest)) (option_and_then if_eight (first_byte p.1))) (number 4 v.1))
    (option_and_then if_version (number 2 bytes))

-- An entry: the version of its unit, the bytes that begin with the specifications of its attributes, and those that begin with their values.
pub record EntryView : Type 0 where
  pub version : ℕ
  pub specifications : List ℕ
  pub values : List ℕ

-- The entry at the front of the bytes of a unit: its abbreviation code, and the values of its attributes.
abbrev pub entry_by : List ℕ → ℕ × ℕ × List ℕ → ℕ × List ℕ → Option EntryView
entry_by debug_abbrev h code =
    option_map (λ s. record { version = h.0; specifications = s; values = code.1 }) (declared_at debug_abbrev h.1 code.0)

unfoldable pub entry_in : List ℕ → List ℕ → Option EntryView
entry_in debug_abbrev bytes = option_and_then (λ h. option_and_then (entry_by debug_abbrev h) (uleb h.2)) (header_in bytes)

-- an attribute: its name, its form, and the bytes that begin with its value
pub record AttributeView : Type 0 where
  pub name : ℕ
  pub form : ℕ
  pub bytes : List ℕ

abbrev pub attribute_of : ℕ → ℕ × List ℕ → AttributeView
attribute_of name v = record { name = name; form = v.0; bytes = v.1 }

-- the attribute whose value is at the front, and the bytes after the value
unfoldable pub attribute_in : ℕ → ℕ → ℕ → List ℕ → Option (AttributeView × List ℕ)
attribute_in version name form bytes =
    option_and_then (λ v. option_map (λ rest. (attribute_of name v, rest)) (behind_value version v.0 v.1)) (resolved form bytes)

-- the attributes of an entry in the order of their specifications, if all of them are there; there are at most n
unfoldable pub attributes_for : ℕ → ℕ → List ℕ → List ℕ → Option (List AttributeView)
attributes_for zero version specifications values = None
attributes_for (suc n) version specifications values =
    option_and_then (λ s. if is_end s.0 s.1 then Some [] else option_and_then (λ (a : AttributeView × List ℕ). option_map (λ more. a.0 ∷ more) (attributes_for n version s.2 a.1)) (attribute_in version s.0 s.1 values)) (specification specifications)

abbrev pub attributes : EntryView → Option (List AttributeView)
attributes e = attributes_for (length e.specifications) e.version e.specifications e.values

-- the first attribute of a name
abbrev pub is_named : ℕ → AttributeView → Bool
is_named name a = a.name == name

unfoldable pub attribute : ℕ → EntryView → Option AttributeView
attribute name e = option_and_then (find (is_named name)) (attributes e)

-- The text of a value: a string (0x08), or a strp (0x0e), which is the place of its text in .debug_str.
unfoldable pub text_of : List ℕ → AttributeView → Option (List ℕ)
text_of debug_str a =
    if a.form == 0x08 then option_map (λ (t : List ℕ × List ℕ). t.0) (text a.bytes)
    else (if a.form == 0x0e then option_and_then (λ (p : ℕ × List ℕ). text_at debug_str p.0) (number 4 a.bytes)
    else None)

-- The place in another section that a value is: a data4 (0x06) before version 4, and a sec_offset (0x17) in version 4.
abbrev pub place_form : ℕ → ℕ
place_form version = if version == 4 then 0x17 else 0x06

unfoldable pub place_of : ℕ → AttributeView → Option ℕ
place_of version a = if a.form == place_form version then option_map (λ (p : ℕ × List ℕ). p.0) (number 4 a.bytes) else None
