use Rattle.address_space.specs.Occurrence.{occurs, occurrences, ordered_from}
use Rattle.address_space.specs.SpaceWords.{space_of}
use Rattle.address_space.proofs.Finding.{left_at_front}
use Rattle.address_space.proofs.find.Matches.new.Goals as goal

pub returns : goal.returns
unfolding occurrences
returns c =
    let space = space_of c.args.space.now in
    let test = occurs space c.args.needle.now in
    left_at_front space test c.begin.result (ordered_from space test 0 space.segments) (c.begin.ensures.same test)
