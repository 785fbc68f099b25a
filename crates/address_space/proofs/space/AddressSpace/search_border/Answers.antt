use Rattle.std.proofs.Common.{sym, ◌∙◌}
use Rattle.address_space.specs.Occurrence.{occurs}
use Rattle.address_space.specs.SpaceWords.{space_of}
use Rattle.address_space.proofs.Finding.{come_passed_first, come_found_first}
use Rattle.address_space.proofs.space.AddressSpace.search_border.Goals as goal

pub returns-then-stands_here-clause-same : goal.returns-then-stands_here-clause-same
returns-then-stands_here-clause-same c =
    let space = space_of c.args.self.now in
    come_found_first space (occurs space c.args.needle.now) c.args.cursor c.passed.result c.requires.placed c.passed.ensures.number c.requires.more c.passed.ensures.left c.passed.ensures.at (sym c.stands_here.ensures ∙ c.if-stands_here.true)

pub returns-clause-same : goal.returns-clause-same
returns-clause-same c =
    let space = space_of c.args.self.now in
    come_passed_first space (occurs space c.args.needle.now) c.args.cursor c.passed-2.result c.requires.placed c.passed-2.ensures.number c.requires.more c.passed-2.ensures.left c.passed-2.ensures.at (sym c.stands_here.ensures ∙ c.if-stands_here.false)
