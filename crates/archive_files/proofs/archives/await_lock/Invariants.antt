use Rattle.std.proofs.Common.{◌≡◌}
use Rattle.disk_model.specs.Holding.{just_opened}
use Rattle.archive_files.proofs.archives.await_lock.Given as goal

-- the lock was not given so far
abbrev pub invariant-loop : goal.invariant-loop
invariant-loop g l = l.file.facts ≡ just_opened
