use Rattle.call_frames.proofs.Numbers.{number_found, number_read}
use Rattle.call_frames.proofs.laws.a_number_is_its_groups.Goals as goal

pub returns-clause-found : goal.returns-clause-found
returns-clause-found c = number_found

pub returns-clause-only : goal.returns-clause-only
returns-clause-only c = number_read
