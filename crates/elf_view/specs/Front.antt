-- The facts about a whole image that a front of it determines.
use Rattle.std.specs.Prelude.{[]}
use Rattle.elf_view.specs.Header.{SegmentView}

-- a program header without its bytes
abbrev pub headed : SegmentView → SegmentView
headed s = record s { bytes = [] }
