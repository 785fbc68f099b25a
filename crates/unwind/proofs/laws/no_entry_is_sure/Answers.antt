use Rattle.unwind.proofs.Turns.{no_entry, no_fault}
use Rattle.unwind.proofs.laws.no_entry_is_sure.Goals as goal

pub returns-clause-faults : goal.returns-clause-faults
returns-clause-faults c = no_fault

pub returns-clause-uncovered : goal.returns-clause-uncovered
returns-clause-uncovered c = no_entry
