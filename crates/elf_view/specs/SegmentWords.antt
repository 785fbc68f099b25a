-- The meaning of the code's segments, and of an iterator over them.
use Rattle.std.specs.Prelude.{List}
use Rattle.elf_view.specs.Header.{SegmentView, segments_between}
use Rattle.elf_view.specs.declared.program_headers.Segment.{Segment}
use Rattle.elf_view.specs.declared.program_headers.Segments.{Segments}

abbrev pub segment_view : Segment → SegmentView
segment_view s = record {
  kind = s.kind;
  flags = s.flags;
  offset = s.offset;
  vaddr = s.vaddr;
  filesz = s.filesz;
  memsz = s.memsz;
  bytes = s.bytes.now;
}

-- the program headers that are still to come, in table order
unfoldable pub segments_left : Segments → List SegmentView
segments_left s = segments_between s.image.now s.index s.left
