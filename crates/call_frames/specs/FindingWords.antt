-- The meaning of the code's call frame information.
use Rattle.std.specs.Prelude.{Bool, Result, Ok, Err}
use Rattle.call_frames.specs.Entry.{TableView, EntryView}
use Rattle.call_frames.specs.EntryWords.{data_table, entry_view}
use Rattle.call_frames.specs.declared.call_frames.CallFrames.{CallFrames}
use Rattle.call_frames.specs.declared.entries.Entry.{Entry}
use Rattle.call_frames.specs.declared.faults.NoEntry.{NoEntry}
use Rattle.call_frames.specs.declared.indexed.Indexed.{Indexed}

-- the table that is indexed
abbrev pub table_in : Indexed → TableView
table_in i = data_table i.table

-- the two tables of an image
abbrev pub eh_frame_in : CallFrames → TableView
eh_frame_in c = table_in c.eh_frame

abbrev pub debug_frame_in : CallFrames → TableView
debug_frame_in c = table_in c.debug_frame

-- some was not read
abbrev pub is_unread_in : CallFrames → Bool
is_unread_in c = c.unread

-- the result of a search
abbrev pub found : Result Entry NoEntry → Result EntryView NoEntry
found (Ok entry) = Ok (entry_view entry)
found (Err e) = Err e
