use Rattle.frame_replies.proofs.ChoiceLemmas.{frame_plain, unwind_plain}
use Rattle.frame_replies.proofs.laws.by_path_where_unknown.Goals as goal

pub returns-clause-unwind : goal.returns-clause-unwind
returns-clause-unwind c = unwind_plain

pub returns-clause-frame : goal.returns-clause-frame
returns-clause-frame c = frame_plain
