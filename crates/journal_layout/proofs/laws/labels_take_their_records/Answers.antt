use Rattle.journal_layout.specs.FitLaws.{labels_take_their_records}
use Rattle.journal_layout.proofs.laws.labels_take_their_records.Goals as goal

pub returns : goal.returns
returns c = labels_take_their_records
