use Rattle.disk_model.specs.CallLaws.{told_laws, told_read, told_wrote, told_synced}
use Rattle.disk_model.proofs.calls.honest_calls_tell_of_a_disk.Goals as goal

pub returns-clause-laws : goal.returns-clause-laws
returns-clause-laws c story = told_laws story

pub returns-clause-read : goal.returns-clause-read
returns-clause-read c story old new r at n bytes long is = told_read story old new r at n bytes long is

pub returns-clause-wrote : goal.returns-clause-wrote
returns-clause-wrote c story old new r at bytes is = told_wrote story old new r at bytes is

pub returns-clause-synced : goal.returns-clause-synced
returns-clause-synced c story old new r is = told_synced story old new r is
