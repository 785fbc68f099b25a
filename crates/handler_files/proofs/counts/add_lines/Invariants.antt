use Rattle.std.proofs.Common.{◌≡◌, ◌++◌, take}
use Rattle.std.specs.List.{flat_map}
use Rattle.handler_files.specs.Counts.{count_of, line}
use Rattle.handler_files.proofs.counts.add_lines.Given as goal

abbrev pub invariant-loop-counter : goal.invariant-loop-counter
invariant-loop-counter l =
    l.text.items ≡ l.initial.text.items ++ flat_map (λ counter. line counter (count_of l.counts.counts counter)) (take l.counter-index l.counters)
