-- The header of a line table (DWARF 5, 6.2.4; versions 2 to 4: DWARF 4, 6.2.4), from after its unit_length on. The first field that fails is the fault.
use Rattle.std.specs.Prelude.{ℕ, ◌-◌, ◌==◌, ◌&&◌, ◌||◌, nat_lt, nat_le, if◌then◌else◌, Bool, List, length, Option, None, Some, Result, Ok}
use Rattle.std.specs.Option.{option_and_then, option_map}
use Rattle.call_frames.specs.Leb.{uleb}
use Rattle.line_tables.specs.Chain.{checked, and_then}
use Rattle.line_tables.specs.Entries.{FormatView, ListView, behind_format, behind_entries, counted, no_strings, directory_format, file_format}
use Rattle.line_tables.specs.Forms.{StringsView}
use Rattle.line_tables.specs.Texts.{first_byte, number, split}
use Rattle.line_tables.specs.declared.faults.LineField.{LineField}
use Rattle.line_tables.specs.declared.faults.LineField.TheVariants as fields
use Rattle.line_tables.specs.declared.lists.ListFields.{ListFields}

-- the fields up to header_length: the version, the bytes of the fields after header_length, and the program
pub record LeadView : Type 0 where
  pub version : ℕ
  pub fields : List ℕ
  pub program : List ℕ

abbrev pub if_version : ℕ × List ℕ → Option (ℕ × List ℕ)
if_version n = if nat_le 2 n.0 && nat_le n.0 5 then Some n else None

unfoldable pub version_in : List ℕ → Option (ℕ × List ℕ)
version_in bytes = option_and_then if_version (number 2 bytes)

-- a byte that is to have one value, if the version has that field, and the bytes after it
abbrev pub if_byte : ℕ → ℕ × List ℕ → Option (List ℕ)
if_byte wanted b = if b.0 == wanted then Some b.1 else None

unfoldable pub behind_byte : Bool → ℕ → List ℕ → Option (List ℕ)
behind_byte present wanted bytes = if present then option_and_then (if_byte wanted) (first_byte bytes) else Some bytes

-- header_length bytes have the fields after it, and those after them are the program
unfoldable pub lead_in : List ℕ → Result LeadView LineField
lead_in body =
    checked (version_in body) fields.Version (λ v.
    checked (behind_byte (v.0 == 5) 8 v.1) fields.AddressSize (λ a.
    checked (behind_byte (v.0 == 5) 0 a) fields.SegmentSelectorSize (λ s.
    checked (number 4 s) fields.HeaderLength (λ n.
    checked (split n.0 n.1) fields.HeaderLength (λ h.
    Ok (record { version = v.0; fields = h.0; program = h.1 }))))))

-- the fields on which the state machine's opcodes depend
pub record MachineView : Type 0 where
  pub minimum_instruction_length : ℕ
  pub line_base : ℕ
  pub line_range : ℕ
  pub opcode_base : ℕ
  pub opcode_lengths : List ℕ

-- a byte that is not 0
unfoldable pub positive : List ℕ → Option (ℕ × List ℕ)
positive bytes = option_and_then (λ (b : ℕ × List ℕ). if b.0 == 0 then None else Some b) (first_byte bytes)

-- versions 4 and 5 have a maximum_operations_per_instruction, which is to be 1
unfoldable pub machine_in : ℕ → List ℕ → Result (MachineView × List ℕ) LineField
machine_in version bytes =
    checked (first_byte bytes) fields.MinimumInstructionLength (λ m.
    checked (behind_byte (nat_le 4 version) 1 m.1) fields.MaximumOperationsPerInstruction (λ o.
    checked (first_byte o) fields.DefaultIsStmt (λ d.
    checked (first_byte d.1) fields.LineBase (λ b.
    checked (positive b.1) fields.LineRange (λ r.
    checked (positive r.1) fields.OpcodeBase (λ c.
    checked (split (c.0 - 1) c.1) fields.StandardOpcodeLengths (λ l.
    Ok (record { minimum_instruction_length = m.0; line_base = b.0; line_range = r.0; opcode_base = c.0; opcode_lengths = l.0 }, l.1))))))))

-- Version 5 (6.2.4, 10 to 17): how many there are, which is at most as many as the section has bytes, and 0 if there is no format.
abbrev pub if_count : ℕ → ℕ → ℕ × List ℕ → Option (ℕ × List ℕ)
if_count formats limit n = if n.0 == 0 || (nat_lt 0 formats && nat_le n.0 limit) then Some n else None

unfoldable pub count_in : ℕ → ℕ → List ℕ → Option (ℕ × List ℕ)
count_in formats limit bytes = option_and_then (if_count formats limit) (uleb bytes)

abbrev pub format_of : ℕ × List ℕ → FormatView
format_of c = record { count = c.0; bytes = c.1 }

unfoldable pub described_list : StringsView → ListFields → ℕ → List ℕ → Result (ListView × List ℕ) LineField
described_list s f limit bytes =
    checked (first_byte bytes) f.format_count (λ c.
    checked (behind_format c.0 c.1) f.format (λ b.
    checked (count_in c.0 limit b) f.count (λ n.
    checked (behind_entries s (format_of c) n.0 n.1) f.list (λ rest.
    Ok (record { strings = s; format = format_of c; count = n.0; bytes = n.1 }, rest)))))

abbrev pub directory_fields : ListFields
directory_fields = record {
  format_count = fields.DirectoryEntryFormatCount;
  format = fields.DirectoryEntryFormat;
  count = fields.DirectoriesCount;
  list = fields.Directories;
}

abbrev pub file_fields : ListFields
file_fields = record {
  format_count = fields.FileNameEntryFormatCount;
  format = fields.FileNameEntryFormat;
  count = fields.FileNamesCount;
  list = fields.FileNames;
}

-- versions 2 to 4: the entries before an empty text, and the bytes after it
unfoldable pub ended_list : FormatView → List ℕ → Option (ListView × List ℕ)
ended_list f bytes =
    option_map (λ (n : ℕ × List ℕ). (record { strings = no_strings; format = f; count = n.0; bytes = bytes }, n.1)) (counted (length bytes) 0 f bytes)

-- the directories and the file names
pub record ListsView : Type 0 where
  pub directories : ListView
  pub files : ListView

abbrev pub lists_of : ListView → ListView → ListsView
lists_of d f = record { directories = d; files = f }

unfoldable pub described_lists : StringsView → ℕ → List ℕ → Result ListsView LineField
described_lists s limit bytes =
    and_then (described_list s directory_fields limit bytes) (λ d.
    and_then (described_list s file_fields limit d.1) (λ f.
    Ok (lists_of d.0 f.0)))

unfoldable pub ended_lists : List ℕ → Result ListsView LineField
ended_lists bytes =
    checked (ended_list directory_format bytes) fields.IncludeDirectories (λ d.
    checked (ended_list file_format d.1) fields.FileNames (λ f.
    Ok (lists_of d.0 f.0)))

abbrev pub lists_in : ℕ → StringsView → ℕ → List ℕ → Result ListsView LineField
lists_in version s limit bytes = if version == 5 then described_lists s limit bytes else ended_lists bytes

pub record HeaderView : Type 0 where
  pub version : ℕ
  pub machine : MachineView
  pub lists : ListsView
  pub program : List ℕ

-- the header in a unit's bytes, in a section of so many bytes
unfoldable pub header_in : StringsView → ℕ → List ℕ → Result HeaderView LineField
header_in s limit body =
    and_then (lead_in body) (λ lead.
    and_then (machine_in lead.version lead.fields) (λ m.
    and_then (lists_in lead.version s limit m.1) (λ lists.
    Ok (record { version = lead.version; machine = m.0; lists = lists; program = lead.program }))))
