use Rattle.std.proofs.Common.{◌≡◌, ◌-◌, length}
use Rattle.line_tables.specs.Abbreviations as spec
use Rattle.line_tables.proofs.abbreviations.declared_in.Given as goal

-- the first declaration of all is that of the ones that are left
abbrev pub invariant-loop-i : goal.invariant-loop-i
invariant-loop-i l = spec.declared_in l.fn.table l.code ≡ spec.declared_among (length l.fn.table - l.i) l.code l.rest
