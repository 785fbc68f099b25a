use Rattle.std.proofs.Common.{◌≡◌, min, ◌^◌, ◌-◌, take}
use Rattle.handler_files.specs.Entries.{bytes_sum}
use Rattle.handler_files.proofs.entries.taken_bytes.Given as goal

abbrev pub invariant-loop-entry : goal.invariant-loop-entry
invariant-loop-entry l = l.sum ≡ min (bytes_sum (take l.entry-index l.entries)) (2 ^ 64 - 1)
