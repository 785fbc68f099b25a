use Rattle.std.proofs.Common.{subst, ◌≡◌, List, Some}
use Rattle.journal_layout.specs.Case.{Case}
use Rattle.journal_layout.specs.Soundness.{case_numbered}
use Rattle.archive_files.proofs.UnlockedPlaceLemmas.{entry_there}
use Rattle.archive_files.proofs.unlocked_places.places_of.Goals as goal

pub consider-requires-clause-there : goal.consider-requires-clause-there
consider-requires-clause-there g c =
    let cases = c.in_ok-entries.ensures in
    let found = entry_there c.in_ok-entries.entries.now c.loop-entry.entry-index c.entry-item.result c.loop-entry-test.true c.entry-item.is in
    (found.0, (c.requires.runs, subst (λ (cs : List Case). case_numbered c.entry-item.result.seq cs ≡ Some found.0) cases.1 found.1))
