use Rattle.std.proofs.Common.{sym, subst}
use Rattle.case_journal.specs.Viewing.{OnlyReads}
use Rattle.archive_checks.proofs.CheckLemmas.{opened_end}
use Rattle.archive_checks.proofs.checking.check_archive.Goals as goal

pub returns-in-Ok : goal.returns-in-Ok
returns-in-Ok g c =
    let told = c.print_archive-told.ensures.told in
    opened_end g.D.Disk c.args.sees_images _ _ _ _ c.args.disk c.close-disk.result c.print_archive-told.result told.2 told.1 told.5 (
      c.in-Ok.archive,
      c.print_archive-told.new.archive,
      c.in-Ok.ensures,
      told,
      c.close-disk.ensures.disk,
      subst (OnlyReads g.D.Disk c.in-Ok.archive.disk) (sym c.close-disk.ensures.disk) c.print_archive-told.ensures.quiet,
    )

pub returns-in-Err : goal.returns-in-Err
returns-in-Err g c =
    let told = c.print_damage.ensures.told in
    (c.in-Err.disk, c.in-Err.ensures, c.print_damage.ensures.quiet, told.0, told.1, told.2, told.3)
