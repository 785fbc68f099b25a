use Rattle.std.proofs.Common.{◌∙◌, ap, sym}
use Rattle.shared_disk.specs.SteadyLaws.{none_steady}
use Rattle.std.proofs.lemmas.Result.{err_from_is_err_and}
use Rattle.archive_files.proofs.UnlockedCopyLemmas.{honest_with, not_opened, numbered_nowhere, numbered_there}
use Rattle.archive_files.proofs.unlocked_copies.stays.Goals as goal

pub returns-then-branch : goal.returns-then-branch
returns-then-branch g c honest =
    let S = g.S.SharedDisk in
    let looks = c.in-Ok.ensures.looks in
    let s = c.in-Ok.again.shared in
    let finds = c.in_ok-has_case.ensures in (
      S.looked s,
      looks.next honest,
      λ z stands.
          numbered_there _ c.unlocked.result (S.looked s) z finds.0 c.args.seq
          (honest_with S c.unlocked.result s _ c.unlocked.ensures.under (c.unlocked.ensures.ranges ∙ c.new.ensures.items) (looks.honesty ∙ honest) (none_steady (S.looked s) (S.meanwhile s)))
          (ap S.looked c.unlocked.ensures.under) finds.1 stands (sym c.if-branch.true ∙ finds.2),
    )

pub returns : goal.returns
returns g c honest =
    let S = g.S.SharedDisk in
    let looks = c.in-Ok.ensures.looks in
    let s = c.in-Ok.again.shared in
    let finds = c.in_ok-has_case.ensures in (
      S.looked s,
      looks.next honest,
      λ z stands.
          numbered_nowhere _ c.unlocked.result (S.looked s) z finds.0 c.args.seq
          (honest_with S c.unlocked.result s _ c.unlocked.ensures.under (c.unlocked.ensures.ranges ∙ c.new.ensures.items) (looks.honesty ∙ honest) (none_steady (S.looked s) (S.meanwhile s)))
          (ap S.looked c.unlocked.ensures.under) finds.1 stands finds.1.state.runs (sym c.if-branch.false ∙ finds.2),
    )

pub returns-in_err-has_case : goal.returns-in_err-has_case
returns-in_err-has_case g c =
    let p = err_from_is_err_and c.from_residual.result c.from_residual.ensures.1 in
    rw (p.1, p.2)
    (not_opened g.S.SharedDisk _ c.args.shared c.in-Ok.again.shared c.unlocked.result c.args.seq c.in_err-has_case.field-0.0 c.in-Ok.ensures.looks c.unlocked.ensures.under c.in_err-has_case.ensures)
