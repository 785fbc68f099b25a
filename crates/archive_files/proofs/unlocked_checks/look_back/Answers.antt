use Rattle.std.proofs.Common.{◌∙◌, List, ap, subst, sym}
use Rattle.intake.specs.Parts.{state_of}
use Rattle.shared_disk.specs.SteadyLaws.{none_steady}
use Rattle.archive_files.specs.UnlockedChecks.{AreSettled}
use Rattle.archive_files.specs.UnlockedFinding.{has_number}
use Rattle.archive_files.specs.declared.unlocked_checks.ToldCase.{ToldCase}
use Rattle.archive_files.proofs.UnlockedCheckLemmas.{all_settled, has_later, none_later}
use Rattle.archive_files.proofs.UnlockedCopyLemmas.{honest_with}
use Rattle.archive_files.proofs.unlocked_checks.look_back.Goals as goal

pub returns-in-Ok-settle : goal.returns-in-Ok-settle
returns-in-Ok-settle g c =
    let S = g.S.SharedDisk in
    let s = c.args.shared in
    let t = c.in-Ok.again.shared in
    let a = c.in-Ok-open.archive in
    subst (λ (ts : List ToldCase). AreSettled S s c.args.cases.now ts) (sym c.in-Ok-settle.ensures.settled)
    (all_settled S s (has_number (state_of a)) c.args.cases.now
    (has_later S s t c.in-Ok.ensures.looks _ c.unlocked.result
    (λ honest. honest_with S c.unlocked.result t _ c.unlocked.ensures.under (c.unlocked.ensures.ranges ∙ c.new-2.ensures.items) honest (none_steady (S.looked t) (S.meanwhile t)))
    (ap S.looked c.unlocked.ensures.under) a c.in-Ok-open.ensures)
    (none_later S s t c.in-Ok.ensures.looks _ c.unlocked.result
    (λ honest. honest_with S c.unlocked.result t _ c.unlocked.ensures.under (c.unlocked.ensures.ranges ∙ c.new-2.ensures.items) honest (none_steady (S.looked t) (S.meanwhile t)))
    (ap S.looked c.unlocked.ensures.under) a c.in-Ok-open.ensures))
