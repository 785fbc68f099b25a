use Rattle.std.proofs.Common.{◌≡◌, ◌-◌}
use Rattle.line_tables.specs.EntryWords.{format_view, strings_view}
use Rattle.line_tables.specs.Entries as spec
use Rattle.line_tables.proofs.entries.behind_entries.Given as goal

-- the bytes after all entries are those after the ones that are left
abbrev pub invariant-loop-i : goal.invariant-loop-i
invariant-loop-i l =
    spec.behind_entries (strings_view l.strings) (format_view l.format) l.fn.count l.fn.bytes ≡ spec.behind_entries (strings_view l.strings) (format_view l.format) (l.fn.count - l.i) l.rest
