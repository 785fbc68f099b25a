use Rattle.unwind.proofs.Turns.{once, unknown}
use Rattle.unwind.proofs.laws.a_return_address_is_used_once.Goals as goal

pub returns-clause-unknown : goal.returns-clause-unknown
returns-clause-unknown c = unknown

pub returns-clause-once : goal.returns-clause-once
returns-clause-once c = once
