use Rattle.std.proofs.Common.{inl, Ok, map, subst, sym}
use Rattle.build_replies.specs.Builds.{builds_answer}
use Rattle.build_replies.specs.BuildsWords.{numbered_view}
use Rattle.memory_replies.specs.Memory.{attached_view}
use Rattle.case_queries.specs.Asking.{files_asking}
use Rattle.case_queries.specs.Inspecting.{asking_by}
use Rattle.case_queries.specs.ToldWords.{ShowsTold}
use Rattle.case_queries.specs.declared.asked.AskedFiles.{AskedFiles}
use Rattle.case_queries.proofs.ShowLemmas.{answered, outcome_with}
use Rattle.case_queries.proofs.by_build.print_asked.Goals as goal

pub returns-in-Frames : goal.returns-in-Frames
returns-in-Frames g c before sees =
    let xs = map attached_view c.args.lent.now.attached.items in
    let cases = map numbered_view c.args.lent.now.cases.items in
    let told = rw c.deref.ensures.value at (c.frames_in_core.ensures before sees) in
    (told.0, subst (λ (a : AskedFiles). ShowsTold g.D.Disk before c.args.image c.args.told.pieces.items xs (files_asking a cases) told.0 c.frames_in_core.new.archive) (sym c.in-Frames.is) told.1, told.2, told.3)

pub returns-in-Builds : goal.returns-in-Builds
returns-in-Builds g c before sees =
    let xs = map attached_view c.args.lent.now.attached.items in
    let cases = map numbered_view c.args.lent.now.cases.items in
    let answer = builds_answer (asking_by c.in-Builds.query cases) sees.0 xs in
    let told = rw c.deref-in-Builds-2.ensures.value at (rw c.builds_asked.ensures at (rw c.deref-in-Builds.ensures.value at (c.print_told.ensures sees.0 (c.requires.told.told sees.0 sees.2)))) in (
      told.0,
      subst (λ (a : AskedFiles). ShowsTold g.D.Disk before c.args.image c.args.told.pieces.items xs (files_asking a cases) told.0 c.args.archive.now) (sym c.in-Builds.is)
          (Ok sees.0, sees.1, (sees.2.0, inl (sees.2.1, answered c.print_told.result answer told.0 told.1))),
      outcome_with c.print_told.result answer told.0 told.1,
      told.2,
    )
