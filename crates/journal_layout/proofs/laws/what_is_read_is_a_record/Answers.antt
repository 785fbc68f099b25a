use Rattle.journal_layout.specs.RecordLaws.{record_told}
use Rattle.journal_layout.proofs.laws.what_is_read_is_a_record.Goals as goal

pub returns : goal.returns
returns c = record_told
