-- The directory of the compilation that a line table comes from (DWARF 4, 3.1.1, DW_AT_stmt_list and DW_AT_comp_dir).
use Rattle.std.specs.Prelude.{ℕ, ◌==◌, Bool, false, List, [], ◌∷◌, filter_map, find, Option, None, Some}
use Rattle.std.specs.Option.{option_and_then}
use Rattle.line_tables.specs.Units.{UnitView, units_in}
use Rattle.line_tables.specs.InfoEntries.{EntryView, entry_in, attribute, text_of, place_of}

-- the sections .debug_info, .debug_abbrev and .debug_str
pub record CompilationsView : Type 0 where
  pub debug_info : List ℕ
  pub debug_abbrev : List ℕ
  pub debug_str : List ℕ

abbrev pub sections : List ℕ → List ℕ → List ℕ → CompilationsView
sections debug_info debug_abbrev debug_str = record { debug_info = debug_info; debug_abbrev = debug_abbrev; debug_str = debug_str }

-- the first entry of a unit
abbrev pub entry_of : CompilationsView → UnitView → Option EntryView
entry_of c u = option_and_then (entry_in c.debug_abbrev) u.bytes

-- The place of its line table in .debug_line: that of DW_AT_stmt_list (0x10).
unfoldable pub table_of : EntryView → Option ℕ
table_of e = option_and_then (place_of e.version) (attribute 0x10 e)

abbrev pub is_place : ℕ → Option ℕ → Bool
is_place p None = false
is_place p (Some q) = q == p

abbrev pub has_table : ℕ → EntryView → Bool
has_table p e = is_place p (table_of e)

-- The directory of its compilation: the text of DW_AT_comp_dir (0x1b). An empty text is no directory.
abbrev pub if_some : List ℕ → Option (List ℕ)
if_some [] = None
if_some (x ∷ xs) = Some (x ∷ xs)

unfoldable pub directory_of : List ℕ → EntryView → Option (List ℕ)
directory_of debug_str e = option_and_then if_some (option_and_then (text_of debug_str) (attribute 0x1b e))

-- The first entries of the units. A unit whose header or abbreviation has a fault has none, and an entry with a fault in its attributes
-- has no line table.
abbrev pub entries_of : CompilationsView → List UnitView → List EntryView
entries_of c us = filter_map (entry_of c) us

-- the directory of the first of them that has the line table at place p
unfoldable pub directory : CompilationsView → ℕ → Option (List ℕ)
directory c p = option_and_then (directory_of c.debug_str) (find (has_table p) (entries_of c (units_in c.debug_info)))
