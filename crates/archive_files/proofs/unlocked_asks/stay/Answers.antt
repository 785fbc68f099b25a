use Rattle.std.proofs.Common.{◌∙◌, ap, sym}
use Rattle.std.proofs.lemmas.Result.{err_from_is_err_and}
use Rattle.shared_disk.specs.SteadyLaws.{none_steady}
use Rattle.archive_files.proofs.UnlockedAskLemmas.{not_opened}
use Rattle.archive_files.proofs.UnlockedCopyLemmas.{honest_with, numbered_nowhere}
use Rattle.archive_files.proofs.UnlockedPlaceLemmas.{each_there, one_missing}
use Rattle.intake.specs.Parts.{state_of}
use Rattle.archive_files.proofs.unlocked_asks.stay.Goals as goal

pub returns-then-branch : goal.returns-then-branch
returns-then-branch g c honest =
    let S = g.S.SharedDisk in
    let looks = c.in-Ok.ensures.looks in
    let s = c.in-Ok.again.shared in
    let finds = c.in_ok-has_all.ensures in (
      S.looked s,
      looks.next honest,
      λ z stands.
          each_there _ c.unlocked.result (S.looked s) z finds.0 c.args.numbers.now
          (honest_with S c.unlocked.result s _ c.unlocked.ensures.under (c.unlocked.ensures.ranges ∙ c.new.ensures.items) (looks.honesty ∙ honest) (none_steady (S.looked s) (S.meanwhile s)))
          (ap S.looked c.unlocked.ensures.under) finds.1 stands (sym finds.2 ∙ c.if-branch.true),
    )

pub returns : goal.returns
returns g c =
    let S = g.S.SharedDisk in
    let looks = c.in-Ok.ensures.looks in
    let s = c.in-Ok.again.shared in
    let finds = c.in_ok-has_all.ensures in
    let missing = one_missing (state_of finds.0) c.args.numbers.now (sym c.if-branch.false ∙ finds.2) in (
      missing.0,
      missing.1,
      λ honest. (
        S.looked s,
        looks.next honest,
        λ z stands.
            numbered_nowhere _ c.unlocked.result (S.looked s) z finds.0 missing.0
            (honest_with S c.unlocked.result s _ c.unlocked.ensures.under (c.unlocked.ensures.ranges ∙ c.new.ensures.items) (looks.honesty ∙ honest) (none_steady (S.looked s) (S.meanwhile s)))
            (ap S.looked c.unlocked.ensures.under) finds.1 stands finds.1.state.runs missing.2,
      ),
    )

pub returns-in_err-has_all : goal.returns-in_err-has_all
returns-in_err-has_all g c =
    let p = err_from_is_err_and c.from_residual.result c.from_residual.ensures.1 in
    rw (p.1, p.2)
    (not_opened g.S.SharedDisk _ c.args.shared c.in-Ok.again.shared c.unlocked.result c.args.numbers.now c.in_err-has_all.field-0.0 c.in-Ok.ensures.looks c.unlocked.ensures.under c.in_err-has_all.ensures)
