use Rattle.std.proofs.Common.{length, map, ap, ◌∙◌}
use Rattle.std.proofs.lemmas.List.{with_items_is}
use Rattle.intake.specs.StreamView.{parts_in}
use Rattle.intake.proofs.SlotLemmas.{all_closed}
use Rattle.intake.proofs.slots.Slots.close_all.Goals as goal

pub returns : goal.returns
returns c =
    let long = c.close_each.auto.slots ∙ ap length c.deref_mut.ensures.value in
    rw (← c.self.view_is)
    (ap (map parts_in) (with_items_is c.self.inside.slots c.close_each.new.slots (c.close_each.auto.slots ∙ c.deref_mut.ensures.len))
    ∙ all_closed c.close_each.new.slots c.self.inside.slots.items long c.close_each.ensures)
