use Rattle.frame_replies.proofs.ShownLemmas.{is_shown}
use Rattle.frame_replies.proofs.laws.each_frame_shown_stands_on_a_rule.Goals as goal

pub returns : goal.returns
returns c = is_shown c.the_frames_are_unwound.ensures.found c.each_frame_stands_on_a_rule.ensures
