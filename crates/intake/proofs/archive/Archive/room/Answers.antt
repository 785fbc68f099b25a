use Rattle.intake.proofs.NameLemmas.{taken_lent}
use Rattle.intake.proofs.SoundLemmas.{sound_lent, block_at}
use Rattle.intake.proofs.archive.Archive.room.Goals as goal

pub lend-requires : goal.lend-requires
lend-requires g c on =
    block_at g.D.Disk c.self.inside.disk c.self.inside.journal c.self.inside.settings.limit c.self.inside.free c.self.inside.slots c.args.slot c.self.inside.stopped c.self.invariant.sound on

pub invariant_of-self-lent : goal.invariant_of-self-lent
invariant_of-self-lent g c w =
    record {
      sound =
          sound_lent g.D.Disk c.self.inside.disk c.self.inside.journal c.self.inside.settings.limit c.self.inside.free c.self.inside.slots c.args.slot c.self.inside.stopped c.lend.result.0 w c.self.invariant.sound c.lend.ensures.reply;
      taken = λ on. taken_lent c.self.inside.journal.standing.cases c.self.inside.slots c.args.slot c.self.inside.stopped c.lend.result.0 w c.self.inside.names (c.self.invariant.taken on) c.lend.ensures.reply;
    }
