-- The meaning of the code's headers.
use Rattle.line_tables.specs.EntryWords.{list_view}
use Rattle.line_tables.specs.Header.{LeadView, MachineView, ListsView, HeaderView}
use Rattle.line_tables.specs.declared.header.Lead.{Lead}
use Rattle.line_tables.specs.declared.header.Machine.{Machine}
use Rattle.line_tables.specs.declared.header.Header.{Header}
use Rattle.line_tables.specs.declared.lists.Lists.{Lists}

abbrev pub lead_view : Lead → LeadView
lead_view l = record { version = l.version; fields = l.fields.now; program = l.program.now }

abbrev pub machine_view : Machine → MachineView
machine_view m = record {
  minimum_instruction_length = m.minimum_instruction_length;
  line_base = m.line_base;
  line_range = m.line_range;
  opcode_base = m.opcode_base;
  opcode_lengths = m.opcode_lengths.now;
}

abbrev pub lists_view : Lists → ListsView
lists_view l = record { directories = list_view l.directories; files = list_view l.files }

abbrev pub header_view : Header → HeaderView
header_view h = record { version = h.version; machine = machine_view h.machine; lists = lists_view h.lists; program = h.program.now }
