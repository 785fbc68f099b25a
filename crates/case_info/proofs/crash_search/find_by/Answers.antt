use Rattle.std.proofs.Common.{◌++◌, List, Ok, map, ap, sym, subst, ◌∙◌}
use Rattle.address_space.specs.Source.{ExecutableView}
use Rattle.build_replies.specs.Mapped.{told_view}
use Rattle.case_queries.specs.CollectingWords.{executable_view}
use Rattle.case_queries.specs.ExecutableWords.{AreOf}
use Rattle.case_queries.specs.declared.collect_executables.StoredExecutable.{StoredExecutable}
use Rattle.case_screens.specs.Core.{notes_read}
use Rattle.core_crashes.specs.Views.{crashed_said}
use Rattle.intake.specs.Parts.{state_of}
use Rattle.case_info.specs.Crashes.{first_thread}
use Rattle.case_info.specs.CrashWords.{CrashesBy, StayRead}
use Rattle.case_info.specs.Screens.{shown_count}
use Rattle.case_info.proofs.SearchLemmas.{by_leaves, stay_prepared}
use Rattle.case_info.proofs.crash_search.find_by.Goals as goal

pub find_served-requires-clause-stored : goal.find_served-requires-clause-stored
find_served-requires-clause-stored g c =
    let leaves = by_leaves g.D.Disk c.args.archive.now c.crash_with.new.archive _ _ _ _ _ _ _ c.in_ok-crash.ensures in
    subst (λ cases. AreOf cases c.add_crash.new.search.stored) (sym leaves.cases) (subst (AreOf (state_of c.args.archive.now).cases) (sym c.in_ok-add_crash.ensures.stored) c.requires.stored)

pub find_served-requires-clause-stay : goal.find_served-requires-clause-stay
find_served-requires-clause-stay g c =
    let old = c.args.archive.now in
    let p = c.in_ok-prepared.prepared in
    let leaves = by_leaves g.D.Disk old c.crash_with.new.archive _ _ _ _ _ _ _ c.in_ok-crash.ensures in
    stay_prepared g.D.Disk g.met.D.Disk.only_now old c.crash_with.new.archive p leaves (
      subst (λ (xs : List StoredExecutable). StayRead g.D.Disk old xs) (sym c.in_ok-prepared.ensures.stored) c.requires.executables,
      subst (λ (xs : List StoredExecutable). StayRead g.D.Disk old xs) (sym c.in_ok-prepared.ensures.debugs) c.requires.debugs,
    )

pub returns : goal.returns
returns g c =
    let o = c.args.image in
    let p = c.in_ok-prepared.prepared in
    let both = p.views ∙ ap (λ xs. map executable_view xs ++ map executable_view p.debug_files.now) c.in_ok-prepared.ensures.stored ∙ ap (λ ds. map executable_view c.args.executables.now ++ map executable_view ds) c.in_ok-prepared.ensures.debugs in
    record {
      crash = crashed_said c.in_ok-crash.crash;
      mid = c.crash_with.new.archive;
      by = subst (λ (xs : List ExecutableView). CrashesBy g.D.Disk c.args.archive.now o.seq o.front.now o.size (told_view c.args.told.files) xs (shown_count first_thread (notes_read (Ok c.args.core.now))) (crashed_said c.in_ok-crash.crash) c.crash_with.new.archive) both c.in_ok-crash.ensures;
      next = c.add_crash.new.search;
      adds = c.in_ok-add_crash.ensures;
      on = c.in_ok-find_served.ensures;
    }
