use Rattle.std.proofs.Common.{◌≡◌, ◌-◌, length}
use Rattle.line_tables.specs.Entries.{counted}
use Rattle.line_tables.specs.EntryWords.{format_view}
use Rattle.line_tables.proofs.lists.count_ended.Given as goal

-- the number of all is that of those that are left, and those that were counted
abbrev pub invariant-loop-count : goal.invariant-loop-count
invariant-loop-count l =
    counted (length l.fn.bytes) 0 (format_view l.format) l.fn.bytes ≡ counted (length l.fn.bytes - l.count) l.count (format_view l.format) l.rest
