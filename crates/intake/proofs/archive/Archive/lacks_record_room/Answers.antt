use Rattle.std.proofs.Common.{◌∙◌, Some, None, not, ap}
use Rattle.intake.specs.Needs.{lacks_record_room}
use Rattle.intake.specs.Parts.{Parts, state_of}
use Rattle.intake.proofs.NeedLemmas.{blocks_few, lacks_is}
use Rattle.intake.proofs.archive.Archive.lacks_record_room.Goals as goal

pub longest_record-requires : goal.longest_record-requires
longest_record-requires g c =
    blocks_few g.D.Disk c.self.inside.disk c.self.inside.journal c.self.inside.settings.limit c.self.inside.free c.self.inside.slots c.args.slot c.self.inside.stopped c.self.invariant.sound

pub returns-in-Some : goal.returns-in-Some
returns-in-Some g c =
    ap not c.has_room.ensures
    ∙ lacks_is (record { disk = c.self.inside.disk; journal = c.self.inside.journal; limit = c.self.inside.settings.limit; streams = c.self.inside.slots; stopped = c.self.inside.stopped }) c.args.slot (Some c.in-Some.size) c.in-Some.ensures
    ∙ ap (λ (a : Parts _). lacks_record_room (state_of a) c.args.slot) c.self.view_is

pub returns-in-None : goal.returns-in-None
returns-in-None g c =
    lacks_is (record { disk = c.self.inside.disk; journal = c.self.inside.journal; limit = c.self.inside.settings.limit; streams = c.self.inside.slots; stopped = c.self.inside.stopped }) c.args.slot None c.in-None.ensures
    ∙ ap (λ (a : Parts _). lacks_record_room (state_of a) c.args.slot) c.self.view_is
