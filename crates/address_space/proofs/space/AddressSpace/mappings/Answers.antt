use Rattle.elf_view.specs.LoadWords.{loads_left}
use Rattle.address_space.specs.SpaceWords.{space_of}
use Rattle.address_space.proofs.Loads.{mappings_are}
use Rattle.address_space.proofs.space.AddressSpace.mappings.Goals as goal

pub returns : goal.returns
unfolding space_of
returns c = mappings_are (space_of c.args.self.now) (loads_left c.loads.result) c.loads.ensures
