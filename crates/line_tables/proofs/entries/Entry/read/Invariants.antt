use Rattle.std.proofs.Common.{◌≡◌, ◌-◌}
use Rattle.line_tables.specs.EntryWords.{entry_view, format_view, strings_view}
use Rattle.line_tables.specs.Entries as spec
use Rattle.line_tables.proofs.entries.Entry.read.Given as goal

-- the whole entry is what the parts that are left make of what is read
abbrev pub invariant-loop-i : goal.invariant-loop-i
invariant-loop-i l =
    spec.entry (strings_view l.strings) (format_view l.format) l.fn.bytes ≡ spec.parts (strings_view l.strings) (l.format.count - l.i) l.descriptions (entry_view l.entry) l.rest
