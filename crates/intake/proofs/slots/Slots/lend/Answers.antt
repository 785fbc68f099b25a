use Rattle.std.proofs.Common.{refl, ap, ◌∙◌, sym, subst}
use Rattle.intake.specs.Room.{SlotReply, room_in}
use Rattle.intake.specs.Lending.{slots_left}
use Rattle.intake.proofs.SlotLemmas.{free_low, slot_reply, slots_are_left, lent_is}
use Rattle.intake.proofs.slots.Slots.lend.Goals as goal

pub lend-requires : goal.lend-requires
lend-requires c =
    free_low c.self.inside.slots.items c.args.self.now c.args.slot c.from.result c.index_mut-slot.result.now c.args.stopped
    c.self.view_is c.self.invariant c.from.ensures c.index_mut-slot.ensures.value _ _ c.free_from-reply.ensures c.requires

pub returns : goal.returns
returns c = (
  (
    refl,
    (λ w. slots_are_left c.self.inside.slots.items c.args.self.now c.args.slot c.from.result c.index_mut-slot.result.now c.args.stopped
        c.self.view_is c.self.invariant c.from.ensures c.index_mut-slot.ensures.value _ _ w c.free_from-reply.ensures
        ∙ ap (λ r. slots_left c.args.self.now c.args.slot r w) (sym c.lend.ensures.reply)),
  ),
  record {
    writes_back = tt;
    reply = subst (SlotReply c.args.stopped c.args.self.now c.args.slot) (sym c.lend.ensures.reply) (slot_reply c.self.inside.slots.items c.args.self.now c.args.slot c.from.result c.index_mut-slot.result.now c.args.stopped
        c.self.view_is c.self.invariant c.from.ensures c.index_mut-slot.ensures.value _ _ c.free_from-reply.ensures);
    lent = c.lend.ensures.lent ∙ lent_is c.self.inside.slots.items c.args.self.now c.args.slot c.from.result c.index_mut-slot.result.now c.args.stopped
        c.self.view_is c.self.invariant c.from.ensures c.index_mut-slot.ensures.value _ _ c.free_from-reply.ensures
        ∙ ap (room_in c.args.self.now c.args.slot) (sym c.lend.ensures.reply);
  },
)
