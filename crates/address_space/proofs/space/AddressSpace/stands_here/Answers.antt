use Rattle.std.proofs.Common.{sym, ◌∙◌}
use Rattle.address_space.specs.SpaceWords.{space_of}
use Rattle.address_space.proofs.Finding.{begins_otherwise}
use Rattle.address_space.proofs.space.AddressSpace.stands_here.Goals as goal

pub returns-else-starts_with : goal.returns-else-starts_with
returns-else-starts_with c =
    c.if-starts_with.false ∙ sym (begins_otherwise (space_of c.args.self.now) c.args.needle.now c.args.here.now c.args.at c.requires.room c.requires.values (sym c.starts_with.ensures.value ∙ c.if-starts_with.false))
