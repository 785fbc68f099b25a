use Rattle.journal_layout.specs.RecordLaws.{record_again}
use Rattle.journal_layout.proofs.laws.records_are_read_again.Goals as goal

pub returns : goal.returns
returns c = record_again
