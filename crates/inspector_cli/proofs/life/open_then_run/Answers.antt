use Rattle.std.proofs.Common.{refl, inl, []}
use Rattle.intake.specs.Durable.{durable_of}
use Rattle.inspector_cli.proofs.life.open_then_run.Goals as goal

pub returns-in-Ok-ended : goal.returns-in-Ok-ended
returns-in-Ok-ended g c = record {
  crash_safe = record {
    opened = c.in-Ok.archive;
    opening = c.in-Ok.ensures;
    settled = λ honest b may. (durable_of g.D.Disk.seen c.in-Ok.archive, c.in-Ok.ensures.settled honest b may, inl refl);
    closed = c.run_session-ended.new.archive;
    disk = c.close-disk.ensures.disk;
    goes = c.in-Ok-ended.ensures [];
  };
}

pub returns-in-Err-ended : goal.returns-in-Err-ended
returns-in-Err-ended g c = record {
  crash_safe = record {
    opened = c.in-Ok.archive;
    opening = c.in-Ok.ensures;
    settled = λ honest b may. (durable_of g.D.Disk.seen c.in-Ok.archive, c.in-Ok.ensures.settled honest b may, inl refl);
    closed = c.run_session-ended.new.archive;
    disk = c.close-disk.ensures.disk;
    goes = c.in-Err-ended.ensures [];
  };
}

pub returns-in-Err : goal.returns-in-Err
returns-in-Err g c = record {
  crash_safe = (record { opening = c.in-Err.ensures; kind = λ x honest stands. c.in-Err.ensures.found_again x honest stands }, (refl, refl, refl, refl));
}
