use Rattle.elf_view.specs.ViewWords.{image_of}
use Rattle.address_space.specs.SpaceWords.{space_of}
use Rattle.address_space.proofs.Finding.{nothing_past}
use Rattle.address_space.proofs.space.AddressSpace.nothing_past_the_end.Goals as goal

pub returns : goal.returns
unfolding space_of
returns c a high =
    let elf = c.args.self.now.elf in
    nothing_past (space_of c.args.self.now) a (c.accepted_segments_fit.ensures.loads elf.want (image_of elf) elf.sound) high
