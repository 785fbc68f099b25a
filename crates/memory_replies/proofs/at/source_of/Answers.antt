use Rattle.std.proofs.Common.{sym, ◌∙◌}
use Rattle.address_space.specs.SpaceWords.{space_of}
use Rattle.address_space.specs.StretchWords.{piece_in}
use Rattle.address_space.specs.Whole.{space_in}
use Rattle.memory_replies.proofs.AtLemmas.{begins_with, first_is, none_left}
use Rattle.memory_replies.proofs.at.source_of.Goals as goal

pub returns-in-Some : goal.returns-in-Some
returns-in-Some c image front =
    let left = c.stretches.ensures in
    let begins = begins_with c.stretches.result _ _ image left.front left.size front in
    c.source_word.ensures image c.in-Some.stretch.length
    ∙ first_is (space_in image (space_of c.args.space.now)) c.args.address (piece_in image c.in-Some.stretch) _ (sym (c.in-Some.ensures.steps.pieces image begins) ∙ left.pieces image)

pub returns-in-None : goal.returns-in-None
returns-in-None c image front =
    let left = c.stretches.ensures in
    let begins = begins_with c.stretches.result _ _ image left.front left.size front in
    absurd (none_left (space_in image (space_of c.args.space.now)) c.args.address (sym (left.pieces image) ∙ (c.in-None.ensures.steps.pieces image begins).0))
