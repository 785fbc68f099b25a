use Rattle.std.proofs.Common.{subst, ◌≡◌, List, Some}
use Rattle.journal_layout.specs.Case.{Case}
use Rattle.journal_layout.specs.Soundness.{case_numbered}
use Rattle.archive_files.specs.UnlockedImages.{IsRead}
use Rattle.archive_files.proofs.UnlockedImageLemmas.{seen_next}
use Rattle.archive_files.proofs.UnlockedPlaceLemmas.{entry_there}
use Rattle.archive_files.proofs.unlocked_images.see_images.Goals as goal

pub see_image-requires-clause-there : goal.see_image-requires-clause-there
see_image-requires-clause-there g c =
    let cases = c.in_ok-entries.ensures in
    let found = entry_there c.in_ok-entries.entries.now c.loop-entry.entry-index c.entry-item.result c.loop-entry-test.true c.entry-item.is in
    (found.0, (c.requires.runs, subst (λ (cs : List Case). case_numbered c.entry-item.result.seq cs ≡ Some found.0) cases.1 found.1))

pub loop-entry-preserved : goal.loop-entry-preserved
loop-entry-preserved g c =
    seen_next (IsRead g.S.SharedDisk g.D.Disk c.args.looked.now.shared c.args.archive.now) c.in_ok-entries.entries.now c.loop-entry.entry-index c.entry-item.result c.loop-entry.seen.items c.push.new.self.items
    c.in_ok-verdict.verdict c.loop-entry-test.true c.entry-item.is c.loop-entry.invariant c.in_ok-verdict.ensures.read c.in-Ok.ensures.items
