use Rattle.unwind.proofs.Steps.{unwound_found, unwound_only, unwound_few}
use Rattle.unwind.proofs.laws.the_frames_are_unwound.Goals as goal

pub returns-clause-found : goal.returns-clause-found
returns-clause-found c = unwound_found

pub returns-clause-only : goal.returns-clause-only
returns-clause-only c = unwound_only

pub returns-clause-few : goal.returns-clause-few
returns-clause-few c = unwound_few
