use Rattle.std.proofs.Common.{◌≡◌, take}
use Rattle.disk_model.specs.Crash.{replayed}
use Rattle.disk_model.proofs.crash.replay.Given as goal

abbrev pub invariant-loop-note : goal.invariant-loop-note
invariant-loop-note l = l.bytes ≡ replayed l.pick l.initial.bytes (take l.note-index l.notes)
