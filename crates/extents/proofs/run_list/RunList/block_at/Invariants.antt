use Rattle.std.proofs.Common.{◌≡◌, drop}
use Rattle.std.specs.List.{slice_get}
use Rattle.extents.specs.Runs.{blocks_of}
use Rattle.extents.proofs.run_list.RunList.block_at.Given as goal

abbrev pub invariant-loop-run : goal.invariant-loop-run
invariant-loop-run l = slice_get (blocks_of (drop l.run-index l.run-items)) l.left ≡ slice_get l.fn.self l.index
