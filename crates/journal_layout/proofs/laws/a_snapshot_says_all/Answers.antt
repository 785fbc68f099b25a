use Rattle.journal_layout.specs.SnapshotLaws.{a_snapshot_says_all}
use Rattle.journal_layout.proofs.laws.a_snapshot_says_all.Goals as goal

pub returns : goal.returns
returns c = a_snapshot_says_all
