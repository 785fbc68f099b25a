use Rattle.std.proofs.Common.{ap, arith}
use Rattle.intake.proofs.SoundLemmas.{in_use}
use Rattle.intake.proofs.archive.Archive.free_blocks.Goals as goal

pub returns : goal.returns
returns g c =
    let all = in_use g.D.Disk c.self.inside.disk c.self.inside.journal c.self.inside.settings.limit c.self.inside.free c.self.inside.slots c.self.inside.stopped (c.self.invariant.sound.runs c.if-self.false) in
    rw (← c.self.view_is) (c.if-self.false, omega (arith, all, c.free.ensures), ap (λ s. s.data_blocks) c.shape.ensures)
