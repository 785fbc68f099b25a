use Rattle.std.proofs.Common.{Some, Ok, Err, List, map, refl, ap, subst, ◌∙◌}
use Rattle.archive_replies.specs.Reasons.{reason_of}
use Rattle.build_replies.specs.Builds.{NamedId}
use Rattle.build_replies.specs.Mapped.{id_view}
use Rattle.intake.specs.Parts.{state_of}
use Rattle.case_queries.specs.Collecting.{Collects, CollectsAll, Wanted, wanted_by}
use Rattle.case_queries.specs.CollectingWords.{executable_view}
use Rattle.case_queries.specs.LeaveLaws.{all_leaves, leaves_then}
use Rattle.case_queries.specs.ToldWords.{ShowsGathered}
use Rattle.case_queries.proofs.AgainLemmas.{stay_after}
use Rattle.case_queries.proofs.FindLemmas.{runs_after, still_pieces, still_sized}
use Rattle.case_queries.proofs.ToldLemmas.{pieces_after, told_gathered, told_unread}
use Rattle.case_queries.proofs.by_build.print_collected.Goals as goal

pub print_gathered-outcome-requires-clause-runs : goal.print_gathered-outcome-requires-clause-runs
print_gathered-outcome-requires-clause-runs g c =
    let now = c.args.archive.now in
    let ws = wanted_by (map id_view c.listed.result.now) (state_of now).cases in
    runs_after g.D.Disk g.met.D.Disk.only_now now c.collect.new.archive ws (map executable_view c.in-Ok.executables.items) c.requires.runs (c.in-Ok.ensures.collected ws c.wanted_by_build-wanted.ensures)

pub print_gathered-outcome-requires-clause-has : goal.print_gathered-outcome-requires-clause-has
print_gathered-outcome-requires-clause-has g c =
    let now = c.args.archive.now in
    let ws = wanted_by (map id_view c.listed.result.now) (state_of now).cases in
    still_sized g.D.Disk g.met.D.Disk.only_now now c.collect.new.archive c.args.image.seq c.args.image.size ws (map executable_view c.in-Ok.executables.items) c.requires.has (c.in-Ok.ensures.collected ws c.wanted_by_build-wanted.ensures)

pub print_gathered-outcome-requires-clause-own : goal.print_gathered-outcome-requires-clause-own
print_gathered-outcome-requires-clause-own g c =
    let now = c.args.archive.now in
    let mid = c.collect.new.archive in
    let ws = wanted_by (map id_view c.listed.result.now) (state_of now).cases in
    let leaves = all_leaves g.D.Disk now mid ws (Ok (map executable_view c.in-Ok.executables.items)) (c.in-Ok.ensures.collected ws c.wanted_by_build-wanted.ensures) in
    pieces_after g.D.Disk c.args.image now mid c.args.told.pieces.items leaves c.requires.own

pub returns-in-Ok-clause-answers : goal.returns-in-Ok-clause-answers
returns-in-Ok-clause-answers g c before sees =
    let image = c.args.image in
    let told = c.args.told in
    let ps = told.pieces.items in
    let now = c.args.archive.now in
    let mid = c.collect.new.archive in
    let new = c.print_gathered-outcome.new.archive in
    let ws = wanted_by (map id_view c.listed.result.now) (state_of now).cases in
    let xs = c.in-Ok.executables in
    let views = map executable_view xs.items in
    let collects = c.in-Ok.ensures.collected ws c.wanted_by_build-wanted.ensures in
    let are = c.in-Ok.ensures.are ws c.wanted_by_build-wanted.ensures in
    let leaves = all_leaves g.D.Disk now mid ws (Ok views) collects in
    let after = c.print_gathered-outcome.ensures.leaves in
    let stay = stay_after g.D.Disk new (g.met.D.Disk.only_now new.disk) mid (Some xs) after c.in-Ok.ensures.kept in
    let first = subst (λ (vs : List Wanted). Collects g.D.Disk new vs (Ok views) new) are stay in
    let second = subst (λ (ts : List NamedId). Collects g.D.Disk new (wanted_by ts (state_of now).cases) (Ok views) new) c.listed.ensures first in
    let wants = subst (λ (ts : List NamedId). CollectsAll g.D.Disk now (wanted_by ts (state_of now).cases) (Ok views) mid) c.listed.ensures collects in
    let shown = rw c.deref.ensures.value at (c.print_gathered-outcome.ensures.answers before (still_pieces g.D.Disk g.met.D.Disk.only_now before now mid image ps ws views sees collects)) in
    let cases = are ∙ ap (λ (ts : List NamedId). wanted_by ts (state_of now).cases) c.listed.ensures in
    let shows = subst (λ (vs : List Wanted). ShowsGathered g.D.Disk before mid image told c.args.asked vs views shown.0 new) cases shown.1 in (
      shown.0,
      told_gathered g.D.Disk image c.args.asked told c.requires.told before now mid new views shown.0 (g.met.D.Disk.only_now new.disk) sees wants second leaves after shows,
      shown.2,
      shown.3,
    )

pub returns-in-Ok-clause-kept : goal.returns-in-Ok-clause-kept
returns-in-Ok-clause-kept g c =
    let new = c.print_gathered-outcome.new.archive in
    stay_after g.D.Disk new (g.met.D.Disk.only_now new.disk) c.collect.new.archive (Some c.in-Ok.executables) c.print_gathered-outcome.ensures.leaves c.in-Ok.ensures.kept

pub returns-in-Ok-clause-leaves : goal.returns-in-Ok-clause-leaves
returns-in-Ok-clause-leaves g c =
    let now = c.args.archive.now in
    let mid = c.collect.new.archive in
    let ws = wanted_by (map id_view c.listed.result.now) (state_of now).cases in
    let leaves = all_leaves g.D.Disk now mid ws (Ok (map executable_view c.in-Ok.executables.items)) (c.in-Ok.ensures.collected ws c.wanted_by_build-wanted.ensures) in
    leaves_then g.D.Disk now mid c.print_gathered-outcome.new.archive leaves c.print_gathered-outcome.ensures.leaves

pub returns-in-Err-clause-answers : goal.returns-in-Err-clause-answers
returns-in-Err-clause-answers g c before sees =
    let image = c.args.image in
    let told = c.args.told in
    let f = c.in-Err.refusal in
    let now = c.args.archive.now in
    let ws = wanted_by (map id_view c.listed.result.now) (state_of now).cases in
    let collects = subst (λ (ts : List NamedId). CollectsAll g.D.Disk now (wanted_by ts (state_of now).cases) (Err f) c.collect.new.archive) c.listed.ensures (c.in-Err.ensures.collected ws c.wanted_by_build-wanted.ensures) in (
      _,
      told_unread g.D.Disk image c.args.asked told c.requires.told before now c.collect.new.archive f sees collects,
      rw c.refused_by.ensures (reason_of f, refl),
      rw c.reason.ensures at c.print_no.ensures,
    )

pub returns-in-Err-clause-leaves : goal.returns-in-Err-clause-leaves
returns-in-Err-clause-leaves g c =
    let now = c.args.archive.now in
    let ws = wanted_by (map id_view c.listed.result.now) (state_of now).cases in
    all_leaves g.D.Disk now c.collect.new.archive ws (Err c.in-Err.refusal) (c.in-Err.ensures.collected ws c.wanted_by_build-wanted.ensures)
