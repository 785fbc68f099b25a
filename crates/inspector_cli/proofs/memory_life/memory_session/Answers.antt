use Rattle.std.proofs.Common.{Ok, Err}
use Rattle.inspector_cli.proofs.MemoryLemmas.{memory_ends}
use Rattle.inspector_cli.proofs.memory_life.memory_session.Goals as goal

pub returns-in-Ok : goal.returns-in-Ok
returns-in-Ok g c = record {
  fresh = memory_ends _ c.args.shape c.args.settings.limit c.args.naming.now _ c.in_ok-disk.disk _ c.in_ok-disk.ensures.refused c.in_ok-disk.ensures.honest c.in_ok-disk.ensures.made _ (Ok c.in-Ok.field-0) c.in-Ok.is c.open_and_run-ended.ensures.crash_safe;
}

pub returns-in-Err : goal.returns-in-Err
returns-in-Err g c = record {
  fresh = rw c.memory_fault.ensures (memory_ends _ c.args.shape c.args.settings.limit c.args.naming.now _ c.in_ok-disk.disk _ c.in_ok-disk.ensures.refused c.in_ok-disk.ensures.honest c.in_ok-disk.ensures.made _ (Err c.in-Err.fault) c.in-Err.is c.open_and_run-ended.ensures.crash_safe);
}
