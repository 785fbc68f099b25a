-- The meaning of the code's entries and attributes.
use Rattle.line_tables.specs.InfoEntries.{AttributeView, EntryView}
use Rattle.line_tables.specs.declared.info_entries.Attribute.{Attribute}
use Rattle.line_tables.specs.declared.info_entries.Entry.{Entry}

abbrev pub entry_view : Entry → EntryView
entry_view e = record { version = e.version; specifications = e.specifications.now; values = e.values.now }

abbrev pub attribute_view : Attribute → AttributeView
attribute_view a = record { name = a.name; form = a.form; bytes = a.bytes.now }
