use Rattle.fair_share.specs.FairLaws.{no_program_has_more, no_user_has_more, the_first_stays}
use Rattle.fair_share.proofs.laws.the_heaviest_user_gives.Goals as goal

pub returns-clause-users : goal.returns-clause-users
returns-clause-users c = no_user_has_more

pub returns-clause-programs : goal.returns-clause-programs
returns-clause-programs c = no_program_has_more

pub returns-clause-first : goal.returns-clause-first
returns-clause-first c = the_first_stays
