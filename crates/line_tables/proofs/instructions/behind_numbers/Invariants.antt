use Rattle.std.proofs.Common.{◌≡◌, ◌-◌}
use Rattle.line_tables.specs.Instructions as spec
use Rattle.line_tables.proofs.instructions.behind_numbers.Given as goal

-- the bytes after all numbers are those after the ones that are left
abbrev pub invariant-loop-i : goal.invariant-loop-i
invariant-loop-i l = spec.behind_numbers l.fn.count l.fn.bytes ≡ spec.behind_numbers (l.fn.count - l.i) l.rest
