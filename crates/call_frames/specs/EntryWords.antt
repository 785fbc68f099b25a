-- The meaning of the code's tables and entries.
use Rattle.inflate.specs.SectionWords.{bytes_in}
use Rattle.call_frames.specs.CommonWords.{cie_view}
use Rattle.call_frames.specs.Entry.{TableView, EntryView}
use Rattle.call_frames.specs.declared.entries.Entry.{Entry}
use Rattle.call_frames.specs.declared.entries.Table.{Table}
use Rattle.call_frames.specs.declared.table_data.TableData.{TableData}

abbrev pub table_view : Table → TableView
table_view t = record { format = t.format; address = t.address; bytes = t.bytes.now }

abbrev pub data_table : TableData → TableView
data_table d = record { format = d.format; address = d.address; bytes = bytes_in d.bytes }

abbrev pub entry_view : Entry → EntryView
entry_view e = record {
  index = e.index;
  place = e.place;
  begin = e.begin;
  range = e.range;
  program = e.program.now;
  cie = cie_view e.cie;
}
