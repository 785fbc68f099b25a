use Rattle.journal_layout.specs.RecordLaws.{one_record}
use Rattle.journal_layout.proofs.laws.no_record_begins_another.Goals as goal

pub returns : goal.returns
returns c = one_record
