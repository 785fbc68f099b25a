use Rattle.std.proofs.Common.{◌∙◌}
use Rattle.std.proofs.lemmas.Option.{MatchOption-at_some, MatchOption-at_none}
use Rattle.address_space.specs.Occurrence.{occurs}
use Rattle.address_space.specs.SpaceWords.{space_of}
use Rattle.address_space.proofs.Finding.{occurs_wants}
use Rattle.address_space.proofs.find.next_match.Goals as goal

pub returns-in-Some-found-clause-same : goal.returns-in-Some-found-clause-same
returns-in-Some-found-clause-same c =
    let space = space_of c.args.space.now in
    let wants = occurs_wants space c.args.needle.now c.requires.some in
    c.loop-here.invariant.same ∙ c.in-Some.ensures.same (occurs space c.args.needle.now) wants ∙ MatchOption-at_some _ _ c.in-Some-found.address c.in-Some-found.is c.search_on-found.ensures.same

pub loop-here-preserved : goal.loop-here-preserved
loop-here-preserved c =
    let space = space_of c.args.space.now in
    let wants = occurs_wants space c.args.needle.now c.requires.some in
    record {
      placed = c.search_on-found.ensures.placed;
      same = c.loop-here.invariant.same ∙ c.in-Some.ensures.same (occurs space c.args.needle.now) wants ∙ MatchOption-at_none _ _ c.in_default-found.is c.search_on-found.ensures.same;
    }

pub returns-clause-same : goal.returns-clause-same
returns-clause-same c =
    let space = space_of c.args.space.now in
    let wants = occurs_wants space c.args.needle.now c.requires.some in
    c.loop-here.invariant.same ∙ c.in_default.ensures.same (occurs space c.args.needle.now) wants
