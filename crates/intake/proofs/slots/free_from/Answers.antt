use Rattle.std.proofs.Common.{refl, ap}
use Rattle.std.specs.Prelude.{option_map}
use Rattle.intake.specs.StreamView.{parts_of}
use Rattle.intake.proofs.slots.free_from.Goals as goal

pub returns-in-Some : goal.returns-in-Some
returns-in-Some c =
    (c.if-stopped.false, c.if-there.true, parts_of c.args.slot.now.block c.in-Some.stream, ap (option_map (parts_of c.args.slot.now.block)) c.in-Some.is, refl)
