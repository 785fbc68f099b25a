use Rattle.call_frames.proofs.Walking.{walk, walk_only}
use Rattle.call_frames.proofs.laws.the_entries_are_the_walk.Goals as goal

pub returns-clause-walk : goal.returns-clause-walk
returns-clause-walk c = λ bytes. walk bytes 0 0

pub returns-clause-only : goal.returns-clause-only
returns-clause-only c = λ bytes spots h. walk_only bytes 0 0 spots h
