use Rattle.std.proofs.Common.{◌≡◌, drop, find, map}
use Rattle.address_space.specs.Source.{is_named}
use Rattle.memory_replies.specs.Memory.{attached_view}
use Rattle.frame_replies.proofs.executables.debug_file.Given as goal

-- the first of all is the first of those that are left
abbrev pub invariant-loop-debug : goal.invariant-loop-debug
invariant-loop-debug l = find (is_named l.path) (map attached_view l.debugs) ≡ find (is_named l.path) (map attached_view (drop l.debug-index l.debugs))
