use Rattle.intake.proofs.ChangeLemmas.{closes}
use Rattle.intake.proofs.archive.Archive.close.Goals as goal

pub returns : goal.returns
returns g c =
    rw (← c.self.view_is)
    (closes g.D.Disk c.self.inside.disk c.self.inside.journal c.self.inside.settings.limit c.self.inside.free c.self.inside.slots c.self.inside.stopped c.self.invariant.sound (g.met.D.Disk.seen_may_stay c.self.inside.disk))
