use Rattle.std.proofs.Common.{refl, inl, []}
use Rattle.intake.specs.Durable.{durable_of}
use Rattle.inspector_cli.proofs.DeletingLemmas.{none_tried}
use Rattle.inspector_cli.proofs.deleting.open_then_delete.Goals as goal

pub returns-in-Ok-deleted-clause-outcome : goal.returns-in-Ok-deleted-clause-outcome
returns-in-Ok-deleted-clause-outcome g c = record {
  opened = c.in-Ok.archive;
  opening = c.in-Ok.ensures;
  settled = λ honest b may. (durable_of g.D.Disk.seen c.in-Ok.archive, c.in-Ok.ensures.settled honest b may, inl refl);
  closed = c.delete_alone-deleted.new.archive;
  disk = c.close-disk.ensures.disk;
  goes = c.in-Ok-deleted.ensures.outcome;
}

pub returns-in-Ok-deleted-clause-lines : goal.returns-in-Ok-deleted-clause-lines
returns-in-Ok-deleted-clause-lines g c = λ naming line lines.
    let s = c.in-Ok-deleted.ensures.session naming line [] lines in (
      s.0,
      record { rest = s.1.rest; front = s.1.front; all = s.1.all },
      s.2,
      record {
        opened = c.in-Ok.archive;
        opening = c.in-Ok.ensures;
        settled = λ honest b may. (durable_of g.D.Disk.seen c.in-Ok.archive, c.in-Ok.ensures.settled honest b may, inl refl);
        closed = c.delete_alone-deleted.new.archive;
        disk = c.close-disk.ensures.disk;
        goes = s.3;
      },
    )

pub returns-in-Err-deleted-clause-outcome : goal.returns-in-Err-deleted-clause-outcome
returns-in-Err-deleted-clause-outcome g c = record {
  opened = c.in-Ok.archive;
  opening = c.in-Ok.ensures;
  settled = λ honest b may. (durable_of g.D.Disk.seen c.in-Ok.archive, c.in-Ok.ensures.settled honest b may, inl refl);
  closed = c.delete_alone-deleted.new.archive;
  disk = c.close-disk.ensures.disk;
  goes = c.in-Err-deleted.ensures.outcome;
}

pub returns-in-Err-deleted-clause-lines : goal.returns-in-Err-deleted-clause-lines
returns-in-Err-deleted-clause-lines g c = λ naming line lines.
    let s = c.in-Err-deleted.ensures.session naming line [] lines in (
      s.0,
      record { rest = s.1.rest; front = s.1.front; all = s.1.all },
      s.2,
      record {
        opened = c.in-Ok.archive;
        opening = c.in-Ok.ensures;
        settled = λ honest b may. (durable_of g.D.Disk.seen c.in-Ok.archive, c.in-Ok.ensures.settled honest b may, inl refl);
        closed = c.delete_alone-deleted.new.archive;
        disk = c.close-disk.ensures.disk;
        goes = s.3;
      },
    )

pub returns-in-Err-clause-outcome : goal.returns-in-Err-clause-outcome
returns-in-Err-clause-outcome g c = (record { opening = c.in-Err.ensures; kind = λ x honest stands. c.in-Err.ensures.found_again x honest stands }, (refl, refl, refl, refl))

pub returns-in-Err-clause-lines : goal.returns-in-Err-clause-lines
returns-in-Err-clause-lines g c = λ naming line lines. (
  [],
  none_tried c.args.numbers.now c.in-Err.fault,
  [],
  (record { opening = c.in-Err.ensures; kind = λ x honest stands. c.in-Err.ensures.found_again x honest stands }, (refl, refl, refl, refl)),
)
