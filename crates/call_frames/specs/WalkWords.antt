-- The meaning of the code's iterators over spots and entries.
use Rattle.std.specs.Prelude.{List, drop}
use Rattle.call_frames.specs.Entry.{EntryView}
use Rattle.call_frames.specs.EntryWords.{table_view}
use Rattle.call_frames.specs.Walk.{spots_past, entries_among}
use Rattle.call_frames.specs.declared.spots.Spot.{Spot}
use Rattle.call_frames.specs.declared.spots.Spots.{Spots}
use Rattle.call_frames.specs.declared.walk.Entries.{Entries}

-- the spots that are still to come
unfoldable pub spots_left : Spots → List Spot
spots_left s = spots_past 0 s.index s.place (drop s.place s.bytes.now)

-- the FDEs that are still to come
abbrev pub entries_left : Entries → List EntryView
entries_left e = entries_among (table_view e.table) (spots_left e.spots)
