-- The names of the fields of line tables (DWARF 5, 6.2.4 and 6.2.5; DWARF 4, 6.2.4).
use Rattle.std.specs.Prelude.{List, ℕ, codes}
use Rattle.line_tables.specs.declared.faults.LineField.{LineField}
use Rattle.line_tables.specs.declared.faults.LineField.TheVariants.{UnitLength, Version, AddressSize, SegmentSelectorSize, HeaderLength, MinimumInstructionLength, MaximumOperationsPerInstruction, DefaultIsStmt, LineBase, LineRange, OpcodeBase, StandardOpcodeLengths, IncludeDirectories, DirectoryEntryFormatCount, DirectoryEntryFormat, DirectoriesCount, Directories, FileNameEntryFormatCount, FileNameEntryFormat, FileNamesCount, FileNames, Length, SetAddress, Operand, EndSequence}

abbrev pub line_field_name : LineField → List ℕ
line_field_name UnitLength = codes "unit_length"
line_field_name Version = codes "version"
line_field_name AddressSize = codes "address_size"
line_field_name SegmentSelectorSize = codes "segment_selector_size"
line_field_name HeaderLength = codes "header_length"
line_field_name MinimumInstructionLength = codes "minimum_instruction_length"
line_field_name MaximumOperationsPerInstruction = codes "maximum_operations_per_instruction"
line_field_name DefaultIsStmt = codes "default_is_stmt"
line_field_name LineBase = codes "line_base"
line_field_name LineRange = codes "line_range"
line_field_name OpcodeBase = codes "opcode_base"
line_field_name StandardOpcodeLengths = codes "standard_opcode_lengths"
line_field_name IncludeDirectories = codes "include_directories"
line_field_name DirectoryEntryFormatCount = codes "directory_entry_format_count"
line_field_name DirectoryEntryFormat = codes "directory_entry_format"
line_field_name DirectoriesCount = codes "directories_count"
line_field_name Directories = codes "directories"
line_field_name FileNameEntryFormatCount = codes "file_name_entry_format_count"
line_field_name FileNameEntryFormat = codes "file_name_entry_format"
line_field_name FileNamesCount = codes "file_names_count"
line_field_name FileNames = codes "file_names"
line_field_name Length = codes "length"
line_field_name SetAddress = codes "set_address"
line_field_name Operand = codes "operand"
line_field_name EndSequence = codes "end_sequence"
