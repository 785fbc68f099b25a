use Rattle.std.proofs.Common.{Err, ap, ◌∙◌}
use Rattle.intake.specs.State.{ArchiveState}
use Rattle.case_queries.specs.Asking.{files_asked}
use Rattle.case_queries.specs.LeaveLaws.{leaves_then}
use Rattle.case_queries.proofs.AgainLemmas.{stay_after}
use Rattle.case_queries.proofs.FindAskLemmas.{reads_again}
use Rattle.case_queries.proofs.FindLemmas.{found_outcome}
use Rattle.case_queries.proofs.ToldLemmas.{not_told, not_told_leaves, pieces_own, sees_leaves}
use Rattle.case_queries.proofs.by_build.answer_by_build.Goals as goal

pub print_collected-requires-clause-runs : goal.print_collected-requires-clause-runs
print_collected-requires-clause-runs g c =
    let now = c.args.archive.now in
    let again = reads_again g.D.Disk now c.args.image (g.met.D.Disk.only_now now.disk) c.requires.own in
    ap (λ (s : ArchiveState). s.stopped) (c.in-Ok.ensures.sees now again).1.state ∙ c.requires.runs

pub print_collected-requires-clause-own : goal.print_collected-requires-clause-own
print_collected-requires-clause-own g c =
    let now = c.args.archive.now in
    let again = reads_again g.D.Disk now c.args.image (g.met.D.Disk.only_now now.disk) c.requires.own in
    pieces_own g.D.Disk c.args.image now c.told_files.new.archive c.in-Ok.told.pieces.items (c.in-Ok.ensures.sees now again)

pub print_collected-requires-clause-kept : goal.print_collected-requires-clause-kept
print_collected-requires-clause-kept g c =
    let now = c.args.archive.now in
    let mid = c.told_files.new.archive in
    let again = reads_again g.D.Disk now c.args.image (g.met.D.Disk.only_now now.disk) c.requires.own in
    stay_after g.D.Disk mid (g.met.D.Disk.only_now mid.disk) now c.args.kept.now (sees_leaves g.D.Disk c.args.image now mid c.in-Ok.told.pieces.items (c.in-Ok.ensures.sees now again)) c.requires.kept

pub returns-in-Ok-clause-answers : goal.returns-in-Ok-clause-answers
returns-in-Ok-clause-answers g c before reads = c.print_collected.ensures.answers before (c.in-Ok.ensures.sees before reads)

pub returns-in-Ok-clause-leaves : goal.returns-in-Ok-clause-leaves
returns-in-Ok-clause-leaves g c =
    let now = c.args.archive.now in
    let mid = c.told_files.new.archive in
    let again = reads_again g.D.Disk now c.args.image (g.met.D.Disk.only_now now.disk) c.requires.own in
    leaves_then g.D.Disk now mid c.print_collected.new.archive (sees_leaves g.D.Disk c.args.image now mid c.in-Ok.told.pieces.items (c.in-Ok.ensures.sees now again)) c.print_collected.ensures.leaves

pub returns-in-Err-clause-answers : goal.returns-in-Err-clause-answers
returns-in-Err-clause-answers g c before reads =
    (_, not_told g.D.Disk c.args.image before c.told_files.new.archive (files_asked c.args.asked) c.in-Err.fault (c.in-Err.ensures.sees before reads), found_outcome (Err c.in-Err.fault) _ c.print_found.ensures.done, c.print_found.ensures.states)

pub returns-in-Err-clause-kept : goal.returns-in-Err-clause-kept
returns-in-Err-clause-kept g c =
    let now = c.args.archive.now in
    let mid = c.told_files.new.archive in
    let again = reads_again g.D.Disk now c.args.image (g.met.D.Disk.only_now now.disk) c.requires.own in
    stay_after g.D.Disk mid (g.met.D.Disk.only_now mid.disk) now c.args.kept.now (not_told_leaves g.D.Disk c.args.image now mid c.in-Err.fault (c.in-Err.ensures.sees now again)) c.requires.kept

pub returns-in-Err-clause-leaves : goal.returns-in-Err-clause-leaves
returns-in-Err-clause-leaves g c =
    let now = c.args.archive.now in
    let again = reads_again g.D.Disk now c.args.image (g.met.D.Disk.only_now now.disk) c.requires.own in
    not_told_leaves g.D.Disk c.args.image now c.told_files.new.archive c.in-Err.fault (c.in-Err.ensures.sees now again)
