-- The source line of an address.
use Rattle.std.specs.Prelude.{ℕ, List, [], ◌∷◌, ◌++◌, Option, None, Some, Result, Ok, Err, codes, decimal}
use Rattle.std.specs.Option.{option_and_then, option_map, option_or}
use Rattle.script_words.specs.Printing.{shown}
use Rattle.line_tables.specs.UnitFinding.{CompilationsView, directory}
use Rattle.elf_view.specs.SectionTable.{section_count_of}
use Rattle.elf_view.specs.Sound.{first_fault}
use Rattle.elf_view.specs.declared.faults.SectionFault.{SectionFault}
use Rattle.elf_view.specs.declared.faults.SectionFault.TheVariants.{EShentsize, EShoff, NoSection}
use Rattle.elf_view.specs.declared.faults.Want.TheVariants.{Exec}
use Rattle.image_replies.specs.Reasons.{elf_reason, indexed}
use Rattle.line_tables.specs.FieldNames.{line_field_name}
use Rattle.line_tables.specs.Files.{text_of}
use Rattle.line_tables.specs.Finding.{LineView, line_at, within}
use Rattle.line_tables.specs.declared.faults.LineFault.{LineFault}
use Rattle.line_tables.specs.declared.faults.NoLine.{NoLine}
use Rattle.line_tables.specs.declared.faults.NoLine.TheVariants.{Uncovered, Faulty}
use Rattle.frame_replies.specs.Source.{SourcesView, no_tables_reason, sources_for}
use Rattle.frame_replies.specs.declared.source.NoTables.{NoTables}

-- a source line: the path of the file as one text, and the number of the line
pub record SourceView : Type 0 where
  pub file : List ℕ
  pub line : ℕ

-- A path that is in the directory of the compilation is in the one that the file tells for its line table.
abbrev pub directory_for : CompilationsView → LineView → Option (List ℕ)
directory_for c l = option_and_then (directory c) l.table

abbrev pub in_directory : LineView → Option (List ℕ) → LineView
in_directory l None = l
in_directory l (Some d) = within d l

abbrev pub whole_line : CompilationsView → LineView → LineView
whole_line c l = in_directory l (directory_for c l)

abbrev pub source_of : CompilationsView → LineView → SourceView
source_of c l = record { file = text_of (whole_line c l).file; line = l.line }

abbrev pub source_by : CompilationsView → Result LineView NoLine → Result SourceView NoLine
source_by c (Ok l) = Ok (source_of c l)
source_by c (Err e) = Err e

-- the source line of an address, or why there is none
unfoldable pub source_at : SourcesView → ℕ → Result SourceView NoLine
source_at s v = source_by s.compilations (line_at s.tables v)

-- `FILE LINE`
abbrev pub source_place : SourceView → List ℕ
source_place s = shown s.file ++ (32 ∷ [] ++ decimal s.line)

-- the fault of the section headers; that there are fewer sections is no fault of theirs
abbrev pub section_fault_by : Result ℕ SectionFault → Option (List ℕ)
section_fault_by (Ok count) = None
section_fault_by (Err EShentsize) = Some (codes "e_shentsize")
section_fault_by (Err EShoff) = Some (codes "e_shoff")
section_fault_by (Err NoSection) = None

abbrev pub section_fault : List ℕ → Option (List ℕ)
section_fault b = section_fault_by (section_count_of b)

-- the first fault of the executable's headers, or else of its section headers
unfoldable pub header_fault : List ℕ → Option (List ℕ)
header_fault b = option_or (option_map elf_reason (first_fault Exec b)) (section_fault b)

-- the field and the number of a line table that has a fault
abbrev pub line_reason : LineFault → List ℕ
line_reason fault = indexed (line_field_name fault.«field») fault.index

-- the line of the address, or why there is none
abbrev pub found_answer : Result SourceView NoLine → Result (List ℕ) (List ℕ)
found_answer (Ok s) = Ok (source_place s ++ 10 ∷ [])
found_answer (Err Uncovered) = Err (codes "NoLine")
found_answer (Err (Faulty fault)) = Err (line_reason fault)

abbrev pub searched : Result SourcesView NoTables → ℕ → Result (List ℕ) (List ℕ)
searched (Ok s) v = found_answer (source_at s v)
searched (Err reason) v = Err (no_tables_reason reason)

abbrev pub answer_unless : Option (List ℕ) → Result (List ℕ) (List ℕ) → Result (List ℕ) (List ℕ)
answer_unless None answer = answer
answer_unless (Some reason) answer = Err reason

-- `line`: the source line of an address of an executable, with its debug file if there is one
unfoldable pub line_answer : List ℕ → Option (List ℕ) → ℕ → Result (List ℕ) (List ℕ)
line_answer b debug v = answer_unless (header_fault b) (searched (sources_for b debug) v)
