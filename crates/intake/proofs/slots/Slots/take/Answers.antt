use Rattle.std.proofs.Common.{None, ap, map, set, ◌∙◌}
use Rattle.intake.specs.StreamView.{parts_in}
use Rattle.intake.proofs.SlotLemmas.{put_in}
use Rattle.intake.proofs.slots.Slots.take.Goals as goal

pub returns-clause-slots : goal.returns-clause-slots
returns-clause-slots c =
    rw (← c.self.view_is) (put_in c.self.inside.slots.items c.from-2.result c.take_from.new.slot None c.take_from.ensures.slot ∙ ap (λ k. set (map parts_in c.self.inside.slots.items) k None) c.from-2.ensures)
