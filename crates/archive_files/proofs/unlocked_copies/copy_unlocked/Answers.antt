use Rattle.std.proofs.Common.{◌∙◌, ap, subst, Ok, Err}
use Rattle.std.proofs.lemmas.Result.{err_from_is_err_and}
use Rattle.shared_disk.specs.SteadyLaws.{none_steady}
use Rattle.archive_files.specs.UnlockedCopies.{LeavesThere}
use Rattle.archive_files.proofs.UnlockedCopyLemmas.{as_answered, by_look, copied_between, honest_with, refused_first}
use Rattle.archive_files.proofs.unlocked_copies.copy_unlocked.Goals as goal

pub returns-in_err-ranges : goal.returns-in_err-ranges
returns-in_err-ranges g c =
    let S = g.S.SharedDisk in
    let s = c.args.looked.shared in
    let p = err_from_is_err_and c.from_residual.result c.from_residual.ensures.1 in
    rw (p.1, p.2)
    (refused_first S _ s c.unlocked.result c.args.seq _ (g.O.Output.failures c.args.output.now) c.in_err-ranges.field-0.0 c.unlocked.ensures.under
    (λ honest. honest_with S c.unlocked.result s _ c.unlocked.ensures.under (c.unlocked.ensures.ranges ∙ c.new.ensures.items) honest (none_steady (S.looked s) (S.meanwhile s)))
    (ap S.looked c.unlocked.ensures.under)
    c.in_err-ranges.ensures)

pub returns-in-Ok : goal.returns-in-Ok
returns-in-Ok g c =
    let S = g.S.SharedDisk in
    let O = g.O.Output in
    let s = c.args.looked.shared in
    let start = O.taken c.args.output.now in
    let taken = O.taken c.copy_image-copied.new.output in
    let count = O.failures c.args.output.now in
    let failures = O.failures c.copy_image-copied.new.output in
    let after = c.copy_image-copied.result.1 in
    let copies = as_answered _ c.args.seq c.unlocked-2.result start taken count failures c.copy_image-copied.result.0 (Ok c.in-Ok.field-0) after c.copy_image-copied.ensures.copies c.in-Ok.is in
    by_look S _ s c.args.seq start taken count failures c.stays.result
    (c.unlocked-2.result, c.unlocked-2.ensures.under, after, as_answered _ c.args.seq c.unlocked-2.result start taken count failures c.copy_image-copied.result.0 (Ok tt) after c.copy_image-copied.ensures.copies c.in-Ok.is)
    (subst (λ (x : _). LeavesThere S _ x c.args.seq c.stays.result) c.into_shared.ensures c.stays.ensures)
    (λ v there.
    copied_between S s (g.met.S.SharedDisk.whole s) (λ b honest held. g.met.S.SharedDisk.lists s b honest held) c.the_next_number_is_above.ensures c.a_case_is_there_between.ensures
    _ c.unlocked.result c.unlocked-2.result c.args.seq start taken count failures c.in_ok-ranges.ranges c.in-Ok.field-0 v after
    (λ honest. honest_with S c.unlocked.result s _ c.unlocked.ensures.under (c.unlocked.ensures.ranges ∙ c.new.ensures.items) honest (none_steady (S.looked s) (S.meanwhile s)))
    (λ honest steady. honest_with S c.unlocked-2.result s _ c.unlocked-2.ensures.under c.unlocked-2.ensures.ranges honest steady)
    (ap S.looked c.unlocked.ensures.under) (ap S.looked c.unlocked-2.ensures.under) (ap S.size c.unlocked.ensures.under)
    c.a_state_tells_what_lasts.ensures c.in_ok-ranges.ensures copies there)

pub returns-in-Err : goal.returns-in-Err
returns-in-Err g c =
    let O = g.O.Output in (
      c.unlocked-2.result,
      c.unlocked-2.ensures.under,
      c.copy_image-copied.result.1,
      as_answered _ c.args.seq c.unlocked-2.result (O.taken c.args.output.now) (O.taken c.copy_image-copied.new.output) (O.failures c.args.output.now) (O.failures c.copy_image-copied.new.output)
          c.copy_image-copied.result.0 (Err c.in-Err.fault) c.copy_image-copied.result.1 c.copy_image-copied.ensures.copies c.in-Err.is,
    )
