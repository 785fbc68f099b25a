use Rattle.std.proofs.Common.{◌≡◌, ◌+◌, false, length}
use Rattle.mount_table.specs.Points.{goes_on, unescaped}
use Rattle.mount_table.proofs.points.depth_of.Given as goal

abbrev pub invariant-loop-byte : goal.invariant-loop-byte
invariant-loop-byte l = record {
  above : goes_on false (unescaped l.fn.point) l.path ≡ goes_on l.after_slash (unescaped l.point) l.left;
  taken : length l.path + length (unescaped l.point) ≡ length (unescaped l.fn.point) + length l.left;
}

abbrev pub decreases-loop-byte : goal.decreases-loop-byte
decreases-loop-byte l = length l.point
