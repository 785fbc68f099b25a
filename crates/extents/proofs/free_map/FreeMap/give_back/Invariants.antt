use Rattle.std.proofs.Common.{◌≡◌, take}
use Rattle.extents.specs.FreeSet.{with_runs}
use Rattle.extents.proofs.free_map.FreeMap.give_back.Given as goal

abbrev pub invariant-loop-run : goal.invariant-loop-run
invariant-loop-run l = l.self ≡ with_runs l.fn.self (take l.run-index l.fn.runs)
