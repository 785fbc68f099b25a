use Rattle.std.proofs.Common.{◌≡◌, ◌∙◌, ℕ, length, subst, arith}
use Rattle.disk_model.specs.CauseLaws.{never_falls}
use Rattle.journal_snapshot.specs.Filling.{Fills}
use Rattle.archive_care.proofs.ByteLemmas.{reads_only, writes_only, written_there}
use Rattle.archive_care.proofs.bytes.copy_block.Goals as goal

pub returns-clause-copies : goal.returns-clause-copies
returns-clause-copies g c =
    let long : length c.read_at.new.into ≡ 4096 = c.read_at.auto.into in
    record {
      quiet = reads_only g.D.Disk c.args.from.now c.read_at.new.self (g.met.D.Disk.only_now c.args.from.now) c.read_at.ensures.time c.read_at.ensures.crash c.read_at.ensures.seen c.read_at.ensures.honesty c.read_at.ensures.size;
      fills = subst (λ (n : ℕ). Fills g.N.Disk c.args.onto.now c.write_at.new.self c.args.target n) long
          (writes_only g.N.Disk c.args.target (length c.read_at.new.into) c.args.onto.now c.write_at.new.self (g.met.N.Disk.only_now c.args.onto.now) (g.met.N.Disk.counts_now c.write_at.new.self)
          c.write_at.ensures.time c.write_at.ensures.crash c.write_at.ensures.others c.write_at.ensures.honesty c.write_at.ensures.size);
      later = never_falls (g.D.Disk.failures c.args.from.now) (g.D.Disk.failures c.read_at.new.self) c.read_at.result c.read_at.ensures.cause;
      later_onto = never_falls (g.N.Disk.failures c.args.onto.now) (g.N.Disk.failures c.write_at.new.self) c.write_at.result c.write_at.ensures.cause;
    }

pub returns-clause-there : goal.returns-clause-there
returns-clause-there g c honest honest_onto =
    let long : length c.read_at.new.into ≡ 4096 = c.read_at.auto.into in
    written_there (g.N.Disk.seen c.args.onto.now) (g.N.Disk.seen c.write_at.new.self) c.read_at.new.into c.args.target 4096 (c.in-Ok-write_at.ensures.written honest_onto) long
    (omega (arith, g.met.N.Disk.whole c.args.onto.now honest_onto, c.requires.target))
    ∙ c.in-Ok.ensures.bytes honest
