use Rattle.std.proofs.Common.{Some, Ok, Err, List, map, refl, subst, sym}
use Rattle.archive_replies.specs.Reasons.{reason_of}
use Rattle.image_replies.specs.CoreWords.{core_bytes}
use Rattle.intake.specs.Parts.{state_of}
use Rattle.windowed_search.specs.ScanWords.{aim_of}
use Rattle.case_queries.specs.Asking.{for_aim}
use Rattle.case_queries.specs.Collecting.{Collects, CollectsAll, Wanted, wanted_of}
use Rattle.case_queries.specs.CollectingWords.{executable_view}
use Rattle.case_queries.specs.LeaveLaws.{all_leaves, leaves_then}
use Rattle.case_queries.proofs.AgainLemmas.{stay_after}
use Rattle.case_queries.proofs.FindAskLemmas.{found_asked, found_leaves, own_after, reads_again, unread_asked}
use Rattle.case_queries.proofs.FindLemmas.{still_front, still_sized}
use Rattle.case_queries.proofs.find.find_collected.Goals as goal

pub returns-in-Ok-clause-answers : goal.returns-in-Ok-clause-answers
returns-in-Ok-clause-answers g c before reads =
    let image = c.args.image in
    let now = c.args.archive.now in
    let mid = c.collect.new.archive in
    let new = c.find_with-outcome.new.archive in
    let ws = wanted_of (core_bytes c.args.core.now) (state_of now).cases in
    let xs = c.in-Ok.executables in
    let views = map executable_view xs.items in
    let collects = c.in-Ok.ensures.collected ws c.wanted_by_path-wanted.ensures in
    let leaves = all_leaves g.D.Disk now mid ws (Ok views) collects in
    let again = reads_again g.D.Disk mid image (g.met.D.Disk.only_now mid.disk) (own_after g.D.Disk now mid image leaves c.requires.own) in
    let after = found_leaves g.D.Disk mid new image _ (for_aim (aim_of c.args.sought)) _ (c.find_with-outcome.ensures mid again).1 in
    let all = leaves_then g.D.Disk now mid new leaves after in
    let stay = stay_after g.D.Disk new (g.met.D.Disk.only_now new.disk) mid (Some xs) after c.in-Ok.ensures.kept in
    let first = subst (λ (vs : List Wanted). Collects g.D.Disk new vs (Ok views) new) (c.in-Ok.ensures.are ws c.wanted_by_path-wanted.ensures) stay in
    let second = subst (λ (b : List _). Collects g.D.Disk new (wanted_of b (state_of now).cases) (Ok views) new) c.requires.front first in
    let third = subst (λ cases. Collects g.D.Disk new (wanted_of image.front.now cases) (Ok views) new) (sym all.cases) second in
    let told = rw c.deref.ensures.value at (c.find_with-outcome.ensures before (still_front g.D.Disk g.met.D.Disk.only_now before now mid image.seq image.front.now ws views reads collects)) in (
      told.0,
      found_asked g.D.Disk c.a_sound_front_names_the_files.ensures image c.requires.sound (aim_of c.args.sought) before new xs told.0 third told.1,
      told.2,
      told.3,
    )

pub returns-in-Ok-clause-kept : goal.returns-in-Ok-clause-kept
returns-in-Ok-clause-kept g c =
    let image = c.args.image in
    let now = c.args.archive.now in
    let mid = c.collect.new.archive in
    let new = c.find_with-outcome.new.archive in
    let ws = wanted_of (core_bytes c.args.core.now) (state_of now).cases in
    let xs = c.in-Ok.executables in
    let leaves = all_leaves g.D.Disk now mid ws (Ok (map executable_view xs.items)) (c.in-Ok.ensures.collected ws c.wanted_by_path-wanted.ensures) in
    let again = reads_again g.D.Disk mid image (g.met.D.Disk.only_now mid.disk) (own_after g.D.Disk now mid image leaves c.requires.own) in
    let after = found_leaves g.D.Disk mid new image _ (for_aim (aim_of c.args.sought)) _ (c.find_with-outcome.ensures mid again).1 in
    stay_after g.D.Disk new (g.met.D.Disk.only_now new.disk) mid (Some xs) after c.in-Ok.ensures.kept

pub returns-in-Ok-clause-leaves : goal.returns-in-Ok-clause-leaves
returns-in-Ok-clause-leaves g c =
    let image = c.args.image in
    let now = c.args.archive.now in
    let mid = c.collect.new.archive in
    let new = c.find_with-outcome.new.archive in
    let ws = wanted_of (core_bytes c.args.core.now) (state_of now).cases in
    let leaves = all_leaves g.D.Disk now mid ws (Ok (map executable_view c.in-Ok.executables.items)) (c.in-Ok.ensures.collected ws c.wanted_by_path-wanted.ensures) in
    let again = reads_again g.D.Disk mid image (g.met.D.Disk.only_now mid.disk) (own_after g.D.Disk now mid image leaves c.requires.own) in
    leaves_then g.D.Disk now mid new leaves (found_leaves g.D.Disk mid new image _ (for_aim (aim_of c.args.sought)) _ (c.find_with-outcome.ensures mid again).1)

pub returns-in-Err-clause-answers : goal.returns-in-Err-clause-answers
returns-in-Err-clause-answers g c before reads =
    let image = c.args.image in
    let f = c.in-Err.refusal in
    let now = c.args.archive.now in
    let ws = wanted_of (core_bytes c.args.core.now) (state_of now).cases in
    let collects = subst (λ b. CollectsAll g.D.Disk now (wanted_of b (state_of now).cases) (Err f) c.collect.new.archive) c.requires.front (c.in-Err.ensures.collected ws c.wanted_by_path-wanted.ensures) in (
      _,
      unread_asked g.D.Disk c.a_sound_front_names_the_files.ensures image c.requires.sound (aim_of c.args.sought) before now c.collect.new.archive f c.requires.has c.requires.short reads collects,
      rw c.refused_by.ensures (reason_of f, refl),
      rw c.reason.ensures at c.print_no.ensures,
    )

pub returns-in-Err-clause-leaves : goal.returns-in-Err-clause-leaves
returns-in-Err-clause-leaves g c =
    let now = c.args.archive.now in
    let ws = wanted_of (core_bytes c.args.core.now) (state_of now).cases in
    all_leaves g.D.Disk now c.collect.new.archive ws (Err c.in-Err.refusal) (c.in-Err.ensures.collected ws c.wanted_by_path-wanted.ensures)

pub find_with-outcome-requires-clause-has : goal.find_with-outcome-requires-clause-has
find_with-outcome-requires-clause-has g c =
    let now = c.args.archive.now in
    let ws = wanted_of (core_bytes c.args.core.now) (state_of now).cases in
    still_sized g.D.Disk g.met.D.Disk.only_now now c.collect.new.archive c.args.image.seq c.args.image.size ws (map executable_view c.in-Ok.executables.items) c.requires.has (c.in-Ok.ensures.collected ws c.wanted_by_path-wanted.ensures)
