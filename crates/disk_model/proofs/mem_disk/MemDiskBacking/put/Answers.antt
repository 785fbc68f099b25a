use Rattle.std.proofs.lemmas.Result.{IfOk-weaker}
use Rattle.disk_model.specs.MemDisk.{held_by}
use Rattle.disk_model.specs.NoteLaws.{held_kept}
use Rattle.disk_model.proofs.Steps.{stays_written, opens_written}
use Rattle.disk_model.proofs.mem_disk.MemDiskBacking.put.Goals as goal

pub returns-clause-put : goal.returns-clause-put
returns-clause-put c =
    let w = c.write_at.ensures in
    let old = c.args.self.now in
    let new = c.write_at.new.self in
    record {
      written = w.written;
      others = w.others;
      crash = w.crash;
      stays = λ _. stays_written c.write_at.result (held_by old) (held_by new) c.args.at c.args.from.now w.held w.unchanged (held_kept old.first.items old.notes.items old.bytes old.fit).left_bytes;
      opens = opens_written c.write_at.result (held_by old) (held_by new) c.args.at c.args.from.now w.held;
      moves = IfOk-weaker c.write_at.result _ _ (λ _ later _. later) w.moves;
      time = w.time;
      cause = w.cause;
      honesty = w.honesty;
      size = w.size;
    }
