use Rattle.std.proofs.Common.{◌≡◌, ◌-◌, find}
use Rattle.std.specs.List.{range_with_len}
use Rattle.symbols.specs.Entry as spec
use Rattle.symbols.proofs.functions.first_function.Given as goal

-- the first of all is the first of those that are left
abbrev pub invariant-loop-i : goal.invariant-loop-i
invariant-loop-i l =
    find (spec.is_function l.entries) (range_with_len l.fn.index (l.end - l.fn.index)) ≡ find (spec.is_function l.entries) (range_with_len l.i (l.end - l.i))
