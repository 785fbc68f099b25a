-- The meaning of the code's directories and file names.
use Rattle.line_tables.specs.Forms.{StringsView}
use Rattle.line_tables.specs.Entries.{EntryView, FormatView, ListView}
use Rattle.line_tables.specs.declared.entries.Entry.{Entry}
use Rattle.line_tables.specs.declared.entries.Format.{Format}
use Rattle.line_tables.specs.declared.entries.Entries.{Entries}
use Rattle.line_tables.specs.declared.forms.Strings.{Strings}

abbrev pub strings_view : Strings → StringsView
strings_view s = record { debug_line_str = s.debug_line_str.now; debug_str = s.debug_str.now }

abbrev pub entry_view : Entry → EntryView
entry_view e = record { text = e.text.now; folder = e.folder }

abbrev pub format_view : Format → FormatView
format_view f = record { count = f.count; bytes = f.bytes.now }

abbrev pub list_view : Entries → ListView
list_view l = record { strings = strings_view l.strings; format = format_view l.format; count = l.count; bytes = l.bytes.now }
