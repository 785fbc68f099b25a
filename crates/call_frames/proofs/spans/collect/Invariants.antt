use Rattle.std.proofs.Common.{◌≡◌, ◌++◌, map}
use Rattle.call_frames.specs.Covering as spec
use Rattle.call_frames.specs.EntryWords.{table_view}
use Rattle.call_frames.specs.Walk.{entries_of}
use Rattle.call_frames.specs.WalkWords.{entries_left}
use Rattle.call_frames.proofs.spans.collect.Given as goal

-- the spans are those that were taken and those of the FDEs that are left
abbrev pub invariant-loop-entry : goal.invariant-loop-entry
invariant-loop-entry l =
    map spec.span_of (entries_of (table_view l.table)) ≡ l.all.items ++ map spec.span_of (entries_left l.entries)
