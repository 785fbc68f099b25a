use Rattle.std.proofs.Common.{refl, Some, ap, map, set, ◌∙◌}
use Rattle.intake.specs.StreamView.{parts_of, parts_in}
use Rattle.intake.proofs.SlotLemmas.{put_in}
use Rattle.intake.proofs.slots.Slots.put.Goals as goal

pub returns : goal.returns
returns c =
    rw (← c.self.view_is) (put_in c.self.inside.slots.items c.from.result (record { stream = Some c.args.stream; block = c.args.block }) (Some (parts_of c.args.block c.args.stream)) refl
    ∙ ap (λ k. set (map parts_in c.self.inside.slots.items) k (Some (parts_of c.args.block c.args.stream))) c.from.ensures)
