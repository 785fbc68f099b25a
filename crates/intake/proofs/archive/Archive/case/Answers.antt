use Rattle.std.proofs.Common.{sym}
use Rattle.intake.proofs.archive.Archive.case.Goals as goal

pub returns-in-Some : goal.returns-in-Some
returns-in-Some g c = rw (← c.self.view_is) (c.if-self.false, (sym c.in-Some.ensures))

pub returns-in-None : goal.returns-in-None
returns-in-None g c = rw (← c.self.view_is) (c.if-self.false, (sym c.in-None.ensures))
