use Rattle.std.proofs.Common.{List, Err, subst}
use Rattle.std.proofs.lemmas.Result.{err_from_is_err_and}
use Rattle.archive_files.specs.UnlockedChecks.{Reports}
use Rattle.archive_files.specs.declared.unlocked_checks.ToldCase.{ToldCase}
use Rattle.archive_files.proofs.UnlockedCheckLemmas.{looked_back, refused_last, reported, settled_back}
use Rattle.archive_files.proofs.unlocked_checks.check_unlocked.Goals as goal

pub returns-in_err-told : goal.returns-in_err-told
returns-in_err-told g c =
    let S = g.S.SharedDisk in
    let O = g.O.Output in
    let s = c.args.looked.shared in
    let f = c.in_ok-findings.findings in
    let p = err_from_is_err_and c.from_residual-in_err-told.result c.from_residual-in_err-told.ensures.1 in
    rw (p.1, p.2)
    (refused_last S _ s c.args.sees_images (O.taken c.args.output.now) (O.failures c.args.output.now) f c.in_err-told.field-0.0 c.in_ok-findings.ensures
    (looked_back S _ c.into_shared.result s c.deref.result.now f.cases.items (Err c.in_err-told.field-0.0) c.into_shared.ensures c.deref.ensures.value c.in_err-told.ensures))

pub returns : goal.returns
returns g c =
    let S = g.S.SharedDisk in
    let O = g.O.Output in
    let s = c.args.looked.shared in
    let f = c.in_ok-findings.findings in
    let told = c.in_ok-told.told in
    let taken = O.taken c.args.output.now in
    let taken' = O.taken c.report.new.output in
    let lost = O.failures c.args.output.now in
    let lost' = O.failures c.report.new.output in
    reported S _ s c.args.sees_images f told.items taken taken' lost lost' c.report.result c.in_ok-findings.ensures
    (settled_back S c.into_shared.result s c.deref.result.now f.cases.items told.items c.into_shared.ensures c.deref.ensures.value c.in_ok-told.ensures)
    (subst (λ (ts : List ToldCase). Reports f ts taken taken' lost lost' c.report.result) c.deref-2.ensures.value c.report.ensures)
