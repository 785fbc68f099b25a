use Rattle.std.proofs.Common.{◌∙◌, ap}
use Rattle.intake.specs.Parts.{state_of}
use Rattle.shared_disk.specs.SteadyLaws.{none_steady}
use Rattle.archive_checks.specs.Checking.{cases_seen}
use Rattle.archive_files.specs.UnlockedChecks.{IsSeen}
use Rattle.archive_files.specs.UnlockedImages.{IsRead}
use Rattle.archive_files.proofs.UnlockedCopyLemmas.{honest_with}
use Rattle.archive_files.proofs.UnlockedImageLemmas.{seen_as, seen_of_read}
use Rattle.archive_files.proofs.unlocked_checks.examine.Goals as goal

pub returns-in-Ok-holdings : goal.returns-in-Ok-holdings
returns-in-Ok-holdings g c =
    let S = g.S.SharedDisk in
    let s = c.args.looked.now.shared in
    let a = c.in-Ok.archive in
    let holds = c.in-Ok-holdings.ensures.holds in (
      c.unlocked.result,
      c.unlocked.ensures.under,
      λ shape x ys honest history. honest_with S c.unlocked.result s _ c.unlocked.ensures.under (c.unlocked.ensures.ranges ∙ c.new.ensures.items) honest (none_steady (S.looked s) (S.meanwhile s)),
      a,
      c.in-Ok.ensures,
      holds,
      seen_as (IsRead S _ s a) (IsSeen S s)
          (seen_of_read S s (g.met.S.SharedDisk.whole s) (λ b honest held. g.met.S.SharedDisk.lists s b honest held) c.the_next_number_is_above.ensures c.a_case_is_there_between.ensures _ c.unlocked.result
          (λ honest. honest_with S c.unlocked.result s _ c.unlocked.ensures.under (c.unlocked.ensures.ranges ∙ c.new.ensures.items) honest (none_steady (S.looked s) (S.meanwhile s)))
          (ap S.looked c.unlocked.ensures.under) (ap S.size c.unlocked.ensures.under) a c.in-Ok.ensures)
          (cases_seen (state_of a) c.args.sees_images) c.in-Ok-holdings.findings.cases.items holds.cases,
    )
