use Rattle.std.proofs.Common.{◌≡◌, ◌-◌, length}
use Rattle.line_tables.specs.Abbreviations as spec
use Rattle.line_tables.proofs.abbreviations.behind_declaration.Given as goal

-- the bytes after all specifications are those after the ones that are left
abbrev pub invariant-loop-i : goal.invariant-loop-i
invariant-loop-i l =
    spec.behind_declaration l.fn.specifications ≡ spec.behind_specifications (length l.fn.specifications - l.i) l.rest
