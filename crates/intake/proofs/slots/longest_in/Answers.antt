use Rattle.std.proofs.Common.{ap}
use Rattle.std.specs.Prelude.{option_map}
use Rattle.intake.specs.StreamView.{parts_of}
use Rattle.intake.proofs.slots.longest_in.Goals as goal

pub longest_record-requires : goal.longest_record-requires
longest_record-requires c = c.requires (parts_of c.args.slot.now.block c.in-Some.stream) (ap (option_map (parts_of c.args.slot.now.block)) c.in-Some.is)
