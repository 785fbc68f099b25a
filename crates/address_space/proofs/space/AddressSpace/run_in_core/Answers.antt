use Rattle.std.specs.Option.{option_map}
use Rattle.elf_view.specs.ViewWords.{image_of}
use Rattle.address_space.specs.Source.{decider}
use Rattle.address_space.specs.SpaceWords.{space_of}
use Rattle.address_space.specs.ScanWords.{decided_view}
use Rattle.address_space.proofs.Places.{some_view, none_view, decider_held}
use Rattle.address_space.proofs.Values.{run_decided_by, run_undecided}
use Rattle.address_space.proofs.space.AddressSpace.run_in_core.Goals as goal

pub returns-in_default-clause-run : goal.returns-in_default-clause-run
returns-in_default-clause-run c =
    let space = space_of c.args.self.now in
    run_undecided space c.args.at c.args.limit c.decide-length.result.1 (none_view decided_view c.decide-length.result.0 (decider space c.args.at) c.in_default.is c.decide-length.ensures.first) c.decide-length.ensures.alike

pub held_from-length-requires-clause-held : goal.held_from-length-requires-clause-held
unfolding space_of decider
held_from-length-requires-clause-held c =
    let space = space_of c.args.self.now in
    decider_held (image_of c.args.self.now.elf) c.args.at (decided_view c.in-Some.decided) (some_view decided_view c.decide-length.result.0 c.in-Some.decided (decider space c.args.at) c.in-Some.is c.decide-length.ensures.first)

pub returns-clause-run : goal.returns-clause-run
returns-clause-run c =
    let space = space_of c.args.self.now in
    run_decided_by space c.args.at c.args.limit c.decide-length.result.1 c.held_from-length.result.1 (decided_view c.in-Some.decided) (option_map (λ bytes. bytes.now) c.held_from-length.result.0)
    (some_view decided_view c.decide-length.result.0 c.in-Some.decided (decider space c.args.at) c.in-Some.is c.decide-length.ensures.first)
    c.decide-length.ensures.alike c.held_from-length.ensures.some c.held_from-length.ensures.within
    (λ k h. c.held_from-length.ensures.values space c.in-Some.decided.number k c.requires.alone h)
