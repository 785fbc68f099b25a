use Rattle.std.proofs.Common.{refl, inl}
use Rattle.intake.specs.Durable.{durable_of}
use Rattle.inspector_cli.proofs.extract.read_image.Goals as goal

pub returns-in-Ok-read : goal.returns-in-Ok-read
returns-in-Ok-read g c = record {
  reads = record {
    opened = c.in-Ok.archive;
    opening = c.in-Ok.ensures;
    settled = λ honest b may. (durable_of g.D.Disk.seen c.in-Ok.archive, c.in-Ok.ensures.settled honest b may, inl refl);
    closed = c.image-read.new.self;
    disk = c.close-disk.ensures.disk;
    goes = c.in-Ok-read.ensures;
  };
}

pub returns-in-Err-read : goal.returns-in-Err-read
returns-in-Err-read g c = record {
  reads = record {
    opened = c.in-Ok.archive;
    opening = c.in-Ok.ensures;
    settled = λ honest b may. (durable_of g.D.Disk.seen c.in-Ok.archive, c.in-Ok.ensures.settled honest b may, inl refl);
    closed = c.image-read.new.self;
    disk = c.close-disk.ensures.disk;
    goes = c.in-Err-read.ensures;
  };
}

pub returns-in-Err : goal.returns-in-Err
returns-in-Err g c = record {
  reads = record { opening = c.in-Err.ensures; kind = λ x honest stands. c.in-Err.ensures.found_again x honest stands };
}
