use Rattle.shared_disk.specs.StillLaws.{a_disk_at_rest_is_honest, a_still_look_is_taken}
use Rattle.shared_disk.proofs.laws.looks_at_a_disk_at_rest_are_taken.Goals as goal

pub returns-clause-honest : goal.returns-clause-honest
returns-clause-honest c = a_disk_at_rest_is_honest

pub returns-clause-taken : goal.returns-clause-taken
returns-clause-taken c = a_still_look_is_taken
