use Rattle.std.proofs.Common.{◌≡◌, ◌-◌}
use Rattle.line_tables.specs.Entries as spec
use Rattle.line_tables.proofs.entries.behind_format.Given as goal

-- the bytes after all descriptions are those after the ones that are left
abbrev pub invariant-loop-i : goal.invariant-loop-i
invariant-loop-i l = spec.behind_format l.fn.count l.fn.bytes ≡ spec.behind_format (l.fn.count - l.i) l.rest
