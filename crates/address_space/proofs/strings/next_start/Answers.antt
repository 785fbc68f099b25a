use Rattle.std.proofs.Common.{◌∙◌, arith}
use Rattle.std.proofs.lemmas.Option.{MatchOption-at_some, MatchOption-at_none}
use Rattle.address_space.specs.Occurrence.{begins_text}
use Rattle.address_space.specs.SpaceWords.{space_of}
use Rattle.address_space.proofs.Texts.{begins_wants}
use Rattle.address_space.proofs.strings.next_start.Goals as goal

pub returns-in-Some-found-clause-same : goal.returns-in-Some-found-clause-same
returns-in-Some-found-clause-same c =
    let space = space_of c.args.space.now in
    c.loop-here.invariant.same ∙ c.in-Some.ensures.same (begins_text space) (begins_wants space) ∙ MatchOption-at_some _ _ c.in-Some-found.address c.in-Some-found.is c.start_on-found.ensures.same

pub loop-here-preserved : goal.loop-here-preserved
loop-here-preserved c =
    let space = space_of c.args.space.now in
    let before = c.loop-here.invariant.less in
    let settled = c.in-Some.ensures.less in
    let less = c.start_on-found.ensures.less in
    record {
      placed = c.start_on-found.ensures.placed;
      less = omega (arith, before, settled, less);
      same = c.loop-here.invariant.same ∙ c.in-Some.ensures.same (begins_text space) (begins_wants space) ∙ MatchOption-at_none _ _ c.in_default-found.is c.start_on-found.ensures.same;
    }

pub returns-clause-same : goal.returns-clause-same
returns-clause-same c =
    let space = space_of c.args.space.now in
    c.loop-here.invariant.same ∙ c.in_default.ensures.same (begins_text space) (begins_wants space)
