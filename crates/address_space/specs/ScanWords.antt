-- The meaning of the code's answers of a search through a table.
use Rattle.std.specs.Prelude.{ℕ, ◌+◌}
use Rattle.elf_view.specs.Header.{SegmentView}
use Rattle.elf_view.specs.SegmentWords.{segment_view}
use Rattle.address_space.specs.Disjoint.{Extent}
use Rattle.address_space.specs.declared.scan.Decided.{Decided}
use Rattle.address_space.specs.declared.row.Row.{Row}

-- a segment with its number
abbrev pub decided_view : Decided → ℕ × SegmentView
decided_view d = (d.number, segment_view d.segment)

-- the address after the last of a row
abbrev pub past_of : Row → ℕ
past_of r = r.start + r.size

-- the addresses of a row, with the number of the segment or file that has them
abbrev pub row_view : Row → ℕ × Extent
row_view r = (r.number, record { start = r.start; past = r.start + r.size })
