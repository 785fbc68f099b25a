-- The directories and file names of a line table (DWARF 5, 6.2.4, 10 to 17, and 6.2.4.1).
use Rattle.std.specs.Prelude.{ℕ, zero, suc, ◌+◌, ◌==◌, ◌||◌, not, nat_lt, if◌then◌else◌, Bool, false, List, [], ◌∷◌, Option, None, Some}
use Rattle.std.specs.Option.{option_and_then, option_map}
use Rattle.call_frames.specs.Leb.{uleb}
use Rattle.line_tables.specs.Forms.{StringsView, kind_of, text_value, number_value, opaque_value}
use Rattle.line_tables.specs.declared.forms.Kind.{Kind}
use Rattle.line_tables.specs.declared.forms.Kind.TheVariants.{Text, Number, Opaque}

-- how many descriptions a format has, and the bytes that begin with them
pub record FormatView : Type 0 where
  pub count : ℕ
  pub bytes : List ℕ

-- A directory or a file name: the text of its path, and the number of its directory; without them an empty text and 0.
pub record EntryView : Type 0 where
  pub text : List ℕ
  pub folder : ℕ

-- a description: a content type and a form, each a ULEB128, and the bytes after them
unfoldable pub description : List ℕ → Option (ℕ × ℕ × List ℕ)
description bytes = option_and_then (λ c. option_map (λ f. (c.0, f.0, f.1)) (uleb c.1)) (uleb bytes)

-- DW_LNCT_path (1) is to be a text, and DW_LNCT_directory_index (2) a number.
abbrev pub suits : ℕ → Option Kind → Bool
suits content None = false
suits content (Some Text) = not (content == 2)
suits content (Some Number) = not (content == 1)
suits content (Some Opaque) = not (content == 1 || content == 2)

-- the bytes after n descriptions, if each has a form that it may have
unfoldable pub behind_format : ℕ → List ℕ → Option (List ℕ)
behind_format zero bytes = Some bytes
behind_format (suc n) bytes =
    option_and_then (λ d. if suits d.0 (kind_of d.1) then behind_format n d.2 else None) (description bytes)

-- an entry, once one more part is read
abbrev pub with_text : ℕ → List ℕ → EntryView → EntryView
with_text content t e = if content == 1 then record { text = t; folder = e.folder } else e

abbrev pub with_folder : ℕ → ℕ → EntryView → EntryView
with_folder content n e = if content == 2 then record { text = e.text; folder = n } else e

abbrev pub part_by : StringsView → ℕ → ℕ → EntryView → List ℕ → Option Kind → Option (EntryView × List ℕ)
part_by s content form e bytes None = None
part_by s content form e bytes (Some Text) = option_map (λ v. (with_text content v.0 e, v.1)) (text_value s form bytes)
part_by s content form e bytes (Some Number) = option_map (λ v. (with_folder content v.0 e, v.1)) (number_value form bytes)
part_by s content form e bytes (Some Opaque) = option_map (λ v. (e, v.1)) (opaque_value form bytes)

unfoldable pub part : StringsView → ℕ → ℕ → EntryView → List ℕ → Option (EntryView × List ℕ)
part s content form e bytes = part_by s content form e bytes (kind_of form)

-- the parts that n descriptions name, one after another
unfoldable pub parts : StringsView → ℕ → List ℕ → EntryView → List ℕ → Option (EntryView × List ℕ)
parts s zero descriptions e bytes = Some (e, bytes)
parts s (suc n) descriptions e bytes =
    option_and_then (λ d. option_and_then (λ v. parts s n d.2 v.0 v.1) (part s d.0 d.1 e bytes)) (description descriptions)

abbrev pub no_parts : EntryView
no_parts = record { text = []; folder = 0 }

-- the entry at the front, and the bytes after it
unfoldable pub entry : StringsView → FormatView → List ℕ → Option (EntryView × List ℕ)
entry s f bytes = parts s f.count f.bytes no_parts bytes

-- the bytes after n entries
unfoldable pub behind_entries : StringsView → FormatView → ℕ → List ℕ → Option (List ℕ)
behind_entries s f zero bytes = Some bytes
behind_entries s f (suc n) bytes = option_and_then (λ e. behind_entries s f n e.1) (entry s f bytes)

-- so many entries of a format
pub record ListView : Type 0 where
  pub strings : StringsView
  pub format : FormatView
  pub count : ℕ
  pub bytes : List ℕ

-- the entry of number n, from 0 on
unfoldable pub nth : ListView → ℕ → Option EntryView
nth l n =
    if nat_lt n l.count then option_map (λ (e : EntryView × List ℕ). e.0) (option_and_then (entry l.strings l.format) (behind_entries l.strings l.format n l.bytes))
    else None

-- Versions 2 to 4 (DWARF 4, 6.2.4, 11 and 12): a directory is a text; a file name is one too, with the number of its directory, a
-- time (3) and a size (4) as ULEB128.
abbrev pub no_strings : StringsView
no_strings = record { debug_line_str = []; debug_str = [] }

abbrev pub directory_format : FormatView
directory_format = record { count = 1; bytes = 1 ∷ 0x08 ∷ [] }

abbrev pub file_format : FormatView
file_format = record { count = 4; bytes = 1 ∷ 0x08 ∷ 2 ∷ 0x0f ∷ 3 ∷ 0x0f ∷ 4 ∷ 0x0f ∷ [] }

-- How many entries there are before an empty text, k of them already counted, and the bytes after it. They are at most n.
unfoldable pub counted : ℕ → ℕ → FormatView → List ℕ → Option (ℕ × List ℕ)
counted zero k f bytes = None
counted (suc n) k f [] = None
counted (suc n) k f (x ∷ xs) =
    if x == 0 then Some (k, xs) else option_and_then (λ e. counted n (k + 1) f e.1) (entry no_strings f (x ∷ xs))
