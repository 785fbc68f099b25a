-- The forms of the parts of a directory or a file name (DWARF 5, 6.2.4.1 and 7.5.6).
use Rattle.std.specs.Prelude.{ℕ, ◌==◌, ◌||◌, if◌then◌else◌, List, Option, None, Some}
use Rattle.std.specs.Option.{option_and_then, option_map}
use Rattle.call_frames.specs.Leb.{uleb, sized}
use Rattle.line_tables.specs.Texts.{text, text_at, number, split}
use Rattle.line_tables.specs.declared.forms.Kind.{Kind}
use Rattle.line_tables.specs.declared.forms.Kind.TheVariants.{Text, Number, Opaque}

-- the sections .debug_line_str and .debug_str
pub record StringsView : Type 0 where
  pub debug_line_str : List ℕ
  pub debug_str : List ℕ

-- DW_FORM_string (0x08), line_strp (0x1f) and strp (0x0e) are texts; udata (0x0f), data1 (0x0b), data2 (0x05), data4 (0x06)
-- and data8 (0x07) are numbers; data16 (0x1e) and block (0x09) are neither.
unfoldable pub kind_of : ℕ → Option Kind
kind_of form =
    if form == 0x08 || form == 0x1f || form == 0x0e then Some Text
    else (if form == 0x0f || form == 0x0b || form == 0x05 || form == 0x06 || form == 0x07 then Some Number
    else (if form == 0x1e || form == 0x09 then Some Opaque
    else None))

-- the section that has the texts of a form, if they are not in the table itself
abbrev pub section_of : StringsView → ℕ → List ℕ
section_of s form = if form == 0x1f then s.debug_line_str else s.debug_str

-- the text at the front, or at the place that the four bytes at the front are, and the bytes after it
unfoldable pub text_value : StringsView → ℕ → List ℕ → Option (List ℕ × List ℕ)
text_value s form bytes =
    if form == 0x08 then text bytes
    else option_and_then (λ p. option_map (λ t. (t, p.1)) (text_at (section_of s form) p.0)) (number 4 bytes)

unfoldable pub number_value : ℕ → List ℕ → Option (ℕ × List ℕ)
number_value form bytes =
    if form == 0x0b then number 1 bytes
    else (if form == 0x05 then number 2 bytes
    else (if form == 0x06 then number 4 bytes
    else (if form == 0x07 then number 8 bytes
    else uleb bytes)))

-- the 16 bytes of data16, or a block
abbrev pub opaque_value : ℕ → List ℕ → Option (List ℕ × List ℕ)
opaque_value form bytes = if form == 0x1e then split 16 bytes else sized bytes
