use Rattle.shared_disk.specs.Watching.{Runs}
use Rattle.shared_disk.proofs.lockless.look_lockless.Given as goal

-- only reads came before
abbrev pub invariant-loop : goal.invariant-loop
invariant-loop g l = Runs g.W.WatchedDisk l.fn.disk l.disk
