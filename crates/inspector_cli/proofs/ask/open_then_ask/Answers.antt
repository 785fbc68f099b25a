use Rattle.std.proofs.Common.{refl, inl, []}
use Rattle.intake.specs.Durable.{durable_of}
use Rattle.inspector_cli.proofs.ask.open_then_ask.Goals as goal

pub returns-in-Ok-asked : goal.returns-in-Ok-asked
returns-in-Ok-asked g c = record {
  outcome = record {
    opened = c.in-Ok.archive;
    opening = c.in-Ok.ensures;
    settled = λ honest b may. (durable_of g.D.Disk.seen c.in-Ok.archive, c.in-Ok.ensures.settled honest b may, inl refl);
    closed = c.ask_alone-asked.new.archive;
    disk = c.close-disk.ensures.disk;
    goes = c.in-Ok-asked.ensures.outcome;
  };
  crash_safe = λ naming line by_path one is. record {
    opened = c.in-Ok.archive;
    opening = c.in-Ok.ensures;
    settled = λ honest b may. (durable_of g.D.Disk.seen c.in-Ok.archive, c.in-Ok.ensures.settled honest b may, inl refl);
    closed = c.ask_alone-asked.new.archive;
    disk = c.close-disk.ensures.disk;
    goes = c.in-Ok-asked.ensures.session naming line [] by_path one is;
  };
}

pub returns-in-Err-asked : goal.returns-in-Err-asked
returns-in-Err-asked g c = record {
  outcome = record {
    opened = c.in-Ok.archive;
    opening = c.in-Ok.ensures;
    settled = λ honest b may. (durable_of g.D.Disk.seen c.in-Ok.archive, c.in-Ok.ensures.settled honest b may, inl refl);
    closed = c.ask_alone-asked.new.archive;
    disk = c.close-disk.ensures.disk;
    goes = c.in-Err-asked.ensures.outcome;
  };
  crash_safe = λ naming line by_path one is. record {
    opened = c.in-Ok.archive;
    opening = c.in-Ok.ensures;
    settled = λ honest b may. (durable_of g.D.Disk.seen c.in-Ok.archive, c.in-Ok.ensures.settled honest b may, inl refl);
    closed = c.ask_alone-asked.new.archive;
    disk = c.close-disk.ensures.disk;
    goes = c.in-Err-asked.ensures.session naming line [] by_path one is;
  };
}

pub returns-in-Err : goal.returns-in-Err
returns-in-Err g c = record {
  outcome = (record { opening = c.in-Err.ensures; kind = λ x honest stands. c.in-Err.ensures.found_again x honest stands }, (refl, refl, refl, refl));
  crash_safe = λ naming line by_path one is. (record { opening = c.in-Err.ensures; kind = λ x honest stands. c.in-Err.ensures.found_again x honest stands }, (refl, refl, refl, refl));
}
