use Rattle.frame_replies.specs.WalkLaws.{frame_told}
use Rattle.frame_replies.proofs.AnswerLemmas.{answered}
use Rattle.frame_replies.proofs.registers.print_walked_frame.Goals as goal

pub returns : goal.returns
returns g c image executables thread process stop is ended =
    let told = c.print_registers_of.ensures in
    (told.0, answered _ _ _ _ (frame_told image executables thread process c.args.walk.now stop is ended c.args.frame _ c.frame_at.ensures) told.1, told.2)
