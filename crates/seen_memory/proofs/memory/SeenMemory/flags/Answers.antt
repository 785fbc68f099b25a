use Rattle.std.proofs.Common.{refl, subst, ◌∙◌}
use Rattle.address_space.specs.SpaceWords.{space_of}
use Rattle.address_space.specs.Whole.{IsFrontOf}
use Rattle.address_space.proofs.Filled.{front_headed}
use Rattle.elf_view.specs.ViewWords.{image_of}
use Rattle.seen_memory.proofs.Bytes.{flags_in}
use Rattle.seen_memory.proofs.memory.SeenMemory.flags.Goals as goal

pub returns : goal.returns
unfolding space_of
returns c image is =
    let elf = c.args.self.now.space.now.elf in
    let front = subst (λ f. IsFrontOf f c.args.self.now.size image) c.args.self.now.own is.begins in
    c.flags.ensures ∙ flags_in (image_of elf) image (space_of c.args.self.now.space.now) c.args.address refl (front_headed (image_of elf) image front.1 elf.whole c.a_sound_front_is_enough.ensures.segments)
