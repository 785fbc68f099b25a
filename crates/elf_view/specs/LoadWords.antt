-- The meaning of the code's PT_LOADs, and of an iterator over them.
use Rattle.std.specs.Prelude.{List}
use Rattle.elf_view.specs.Header.{LoadView, loads_from}
use Rattle.elf_view.specs.SegmentWords.{segment_view, segments_left}
use Rattle.elf_view.specs.declared.loads.Load.{Load}
use Rattle.elf_view.specs.declared.loads.Loads.{Loads}

abbrev pub load_view : Load → LoadView
load_view l = record { number = l.number; segment = segment_view l.segment }

-- the PT_LOADs that are still to come, in table order
unfoldable pub loads_left : Loads → List LoadView
loads_left l = loads_from l.number (segments_left l.segments)
