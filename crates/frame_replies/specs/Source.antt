-- Where the line tables of an executable are (DWARF 5, 6.2; the names of the sections: 7.4 and Appendix B).
use Rattle.std.specs.Prelude.{ℕ, if◌then◌else◌, Bool, List, [], Option, None, Some, is_none, unwrap_or, Result, Ok, Err, codes}
use Rattle.std.specs.Option.{option_and_then, option_map}
use Rattle.elf_view.specs.Sound.{first_fault}
use Rattle.elf_view.specs.declared.faults.Want.TheVariants.{Exec}
use Rattle.line_tables.specs.UnitFinding.{CompilationsView}
use Rattle.line_tables.specs.Finding.{TablesView, tables}
use Rattle.inflate.specs.Sections.{DataView, has_unread, section_data}
use Rattle.frame_replies.specs.declared.source.NoTables.{NoTables}
use Rattle.frame_replies.specs.declared.source.NoTables.TheVariants.{Compressed, Missing, OutOfMemory}

-- the bytes of the section of a name, decompressed if they are compressed
abbrev pub section_bytes : List ℕ → List ℕ → Option (List ℕ)
section_bytes b name = option_map (λ (s : DataView). s.bytes) (section_data b name)

-- those of a section that need not be there
abbrev pub bytes_or_none : List ℕ → List ℕ → List ℕ
bytes_or_none b name = unwrap_or (section_bytes b name) []

-- why a file has no line tables: its section is compressed, and cannot be decompressed, or there is none
abbrev pub no_tables : Bool → NoTables
no_tables unread = if unread then Compressed else Missing

-- the line tables of a file, and its compilations, in whose directories relative paths are
pub record SourcesView : Type 0 where
  pub tables : TablesView
  pub compilations : CompilationsView

abbrev pub compilations_in : List ℕ → CompilationsView
compilations_in b = record {
  debug_info = bytes_or_none b (codes ".debug_info");
  debug_abbrev = bytes_or_none b (codes ".debug_abbrev");
  debug_str = bytes_or_none b (codes ".debug_str");
}

abbrev pub sources_with : List ℕ → List ℕ → SourcesView
sources_with b lines = record {
  tables = tables lines (bytes_or_none b (codes ".debug_line_str")) (bytes_or_none b (codes ".debug_str"));
  compilations = compilations_in b;
}

abbrev pub sources_or : Option SourcesView → Bool → Result SourcesView NoTables
sources_or None unread = Err (no_tables unread)
sources_or (Some s) unread = Ok s

-- those of one file
unfoldable pub sources_in : List ℕ → Result SourcesView NoTables
sources_in b = sources_or (option_map (sources_with b) (section_bytes b (codes ".debug_line"))) (has_unread b (codes ".debug_line"))

abbrev pub no_tables_reason : NoTables → List ℕ
no_tables_reason Compressed = codes "Compressed"
no_tables_reason Missing = codes "NoLine"
no_tables_reason OutOfMemory = codes "OutOfMemory"

-- a debug file provides nothing if its headers have a fault
abbrev pub sound_file : List ℕ → Option (List ℕ)
sound_file d = if is_none (first_fault Exec d) then Some d else None

abbrev pub sound_debug : Option (List ℕ) → Option (List ℕ)
sound_debug debug = option_and_then sound_file debug

-- those of a debug file; if it has no such section, there are none for the executable's own reason
abbrev pub debug_sources : NoTables → Result SourcesView NoTables → Result SourcesView NoTables
debug_sources own (Ok s) = Ok s
debug_sources own (Err Missing) = Err own
debug_sources own (Err reason) = Err reason

abbrev pub sources_of_debug : NoTables → Option (List ℕ) → Result SourcesView NoTables
sources_of_debug own None = Err own
sources_of_debug own (Some d) = debug_sources own (sources_in d)

-- those of the executable, or else those of a sound debug file
abbrev pub sources_by : Result SourcesView NoTables → Option (List ℕ) → Result SourcesView NoTables
sources_by (Ok s) debug = Ok s
sources_by (Err own) debug = sources_of_debug own debug

unfoldable pub sources_for : List ℕ → Option (List ℕ) → Result SourcesView NoTables
sources_for b debug = sources_by (sources_in b) (sound_debug debug)
