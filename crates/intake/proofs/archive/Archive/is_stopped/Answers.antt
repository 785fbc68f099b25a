use Rattle.intake.proofs.RestLemmas.{stands_now}
use Rattle.intake.proofs.archive.Archive.is_stopped.Goals as goal

pub returns-clause-stands : goal.returns-clause-stands
returns-clause-stands g c on honest b may =
    let real = rw (← c.self.view_is) at honest in
    let left = rw (← c.self.view_is) at may in
    rw (← c.self.view_is) (stands_now g.D.Disk c.self.inside.disk c.self.inside.journal (c.self.invariant.sound.runs on).keeps (c.self.invariant.sound.runs on).journal real b left)

pub returns-clause-doubts : goal.returns-clause-doubts
returns-clause-doubts g c honest =
    let real = rw (← c.self.view_is) at honest in
    rw (← c.self.view_is) (c.self.invariant.sound.doubts real)
