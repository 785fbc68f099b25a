use Rattle.std.proofs.Common.{ℕ, List, ap, subst, ◌∙◌}
use Rattle.intake.specs.InTurn.{last_state}
use Rattle.shared_disk.specs.SteadyLaws.{none_steady}
use Rattle.archive_files.specs.History.{HasEach}
use Rattle.archive_files.proofs.UnlockedCopyLemmas.{honest_with}
use Rattle.archive_files.proofs.UnlockedPlaceLemmas.{all_steady}
use Rattle.case_info.proofs.GatherLemmas.{unpacked_between}
use Rattle.case_info.proofs.unpacking.unpacking_looked.Goals as goal

pub returns-in-Ok-stay : goal.returns-in-Ok-stay
returns-in-Ok-stay g c =
    let S = g.S.SharedDisk in
    let s = c.args.looked.shared in
    let finds = c.in-Ok.ensures in
    unpacked_between S _ s c.into_shared.result c.unlocked-disk.result c.deref.result.now c.in-Ok-stay.field-0 c.into_shared.ensures c.in-Ok-stay.ensures
    (λ shape x ys honest holds each.
    let later = subst (λ (ns : List ℕ). HasEach (last_state x ys) ns) c.deref.ensures.value each in
    honest_with S c.unlocked-disk.result s _ c.unlocked-disk.ensures.under c.unlocked-disk.ensures.ranges honest
    (all_steady S s (g.met.S.SharedDisk.whole s) (λ b real held. g.met.S.SharedDisk.lists s b real held) c.the_next_number_is_above.ensures c.a_case_is_there_between.ensures
    _ c.unlocked.result
    (λ real. honest_with S c.unlocked.result s _ c.unlocked.ensures.under (c.unlocked.ensures.ranges ∙ c.new.ensures.items) real (none_steady (S.looked s) (S.meanwhile s)))
    (ap S.looked c.unlocked.ensures.under) (ap S.size c.unlocked.ensures.under) finds.0 finds.1 shape x ys honest holds
    c.in-Ok.places.numbers.items c.in-Ok.places.ranges.items finds.2 later))
    c.args.seq c.in_ok-unpacking.unpacking c.unlocked-disk.ensures.under c.in_ok-unpacking.ensures
