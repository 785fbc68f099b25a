use Rattle.address_space.specs.SourceWords.{kind_view}
use Rattle.address_space.specs.SpaceWords.{space_of}
use Rattle.address_space.proofs.Values.{run_of}
use Rattle.address_space.proofs.space.AddressSpace.run.Goals as goal

pub returns-clause-run : goal.returns-clause-run
returns-clause-run c =
    run_of (space_of c.args.self.now) c.args.at c.args.limit c.locate-located.result.length c.locate-located.result.number (kind_view c.locate-located.result.kind) _ c.locate-located.ensures.stretch c.locate-located.ensures.number c.locate-located.ensures.content c.bytes_of.ensures

pub run_in_core-requires-clause-alone : goal.run_in_core-requires-clause-alone
unfolding space_of
run_in_core-requires-clause-alone c = c.is_empty.ensures c.if-is_empty.true
