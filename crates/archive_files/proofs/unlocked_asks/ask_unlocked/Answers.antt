use Rattle.std.proofs.Common.{◌∙◌, ap, subst, List, ℕ, Ok, Err}
use Rattle.std.proofs.lemmas.Result.{err_from_is_err_and}
use Rattle.shared_disk.specs.SteadyLaws.{none_steady}
use Rattle.archive_files.specs.UnlockedAsks.{LeavesAllThere}
use Rattle.archive_files.specs.History.{HasEach, IsOneOf}
use Rattle.intake.specs.InTurn.{last_state}
use Rattle.script_lines.specs.Commands.{question_said}
use Rattle.archive_files.proofs.UnlockedAskLemmas.{answered_between, as_answered, refused_first, refused_last}
use Rattle.archive_files.proofs.UnlockedCopyLemmas.{honest_with}
use Rattle.archive_files.proofs.UnlockedPlaceLemmas.{all_steady, there_by_number}
use Rattle.archive_files.proofs.unlocked_asks.ask_unlocked.Goals as goal

pub returns-in_err-places : goal.returns-in_err-places
returns-in_err-places g c =
    let O = g.O.Output in
    let p = err_from_is_err_and c.from_residual.result c.from_residual.ensures.1 in
    rw (p.1, p.2)
    (refused_first g.S.SharedDisk _ c.args.looked.shared (question_said c.args.question) (O.taken c.args.output.now) (O.failures c.args.output.now) c.unlocked.result c.in_err-places.field-0.0 c.unlocked.ensures.under c.in_err-places.ensures)

pub returns-in_err-stay-in-Ok : goal.returns-in_err-stay-in-Ok
returns-in_err-stay-in-Ok g c =
    let O = g.O.Output in
    let S = g.S.SharedDisk in
    let s = c.args.looked.shared in
    let finds = c.in_ok-places.ensures in
    let p = err_from_is_err_and c.from_residual-in_err-stay-in-Ok.result c.from_residual-in_err-stay-in-Ok.ensures.1 in
    rw (p.1, p.2)
    (refused_last S _ s (question_said c.args.question) (O.taken c.args.output.now) (O.taken c.open_and_ask-asked.new.output) (O.failures c.args.output.now) (O.failures c.open_and_ask-asked.new.output)
    c.deref.result.now c.in_err-stay-in-Ok.field-0.0 (
      c.in-Ok.is_done,
      (
        c.unlocked-disk.result,
        c.unlocked-disk.ensures.under,
        as_answered _ (question_said c.args.question) (O.taken c.args.output.now) (O.taken c.open_and_ask-asked.new.output) (O.failures c.args.output.now) (O.failures c.open_and_ask-asked.new.output)
            c.unlocked-disk.result c.open_and_ask-asked.result.1 c.open_and_ask-asked.result.0 (Ok c.in-Ok.is_done) c.open_and_ask-asked.ensures.outcome c.in-Ok.is,
      ),
    )
    (subst (λ (y : _). LeavesAllThere S _ y c.deref.result.now (Err c.in_err-stay-in-Ok.field-0.0)) c.into_shared.ensures c.in_err-stay-in-Ok.ensures)
    (λ n among shape x ys honest holds.
    there_by_number _ c.unlocked.result (S.looked s) shape x
    (honest_with S c.unlocked.result s _ c.unlocked.ensures.under (c.unlocked.ensures.ranges ∙ c.new.ensures.items) honest (none_steady (S.looked s) (S.meanwhile s)))
    (ap S.looked c.unlocked.ensures.under) holds.first finds.0 c.in_ok-places.places.numbers.items n finds.1 finds.2.there
    (subst (λ (ns : List ℕ). IsOneOf ns n) c.deref.ensures.value among)))

pub returns-in_ok-stay-in-Ok : goal.returns-in_ok-stay-in-Ok
returns-in_ok-stay-in-Ok g c =
    let O = g.O.Output in
    let S = g.S.SharedDisk in
    let s = c.args.looked.shared in
    let finds = c.in_ok-places.ensures in
    answered_between S _ s (question_said c.args.question) (O.taken c.args.output.now) (O.taken c.open_and_ask-asked.new.output) (O.failures c.args.output.now) (O.failures c.open_and_ask-asked.new.output)
    _ c.unlocked-disk.result c.deref.result.now c.in-Ok.is_done c.in_ok-stay-in-Ok.field-0 c.into_shared.ensures c.unlocked-disk.ensures.under
    (as_answered _ (question_said c.args.question) (O.taken c.args.output.now) (O.taken c.open_and_ask-asked.new.output) (O.failures c.args.output.now) (O.failures c.open_and_ask-asked.new.output)
    c.unlocked-disk.result c.open_and_ask-asked.result.1 c.open_and_ask-asked.result.0 (Ok c.in-Ok.is_done) c.open_and_ask-asked.ensures.outcome c.in-Ok.is)
    c.in_ok-stay-in-Ok.ensures
    (λ shape x ys honest holds each.
    let later = subst (λ (ns : List ℕ). HasEach (last_state x ys) ns) c.deref.ensures.value each in
    honest_with S c.unlocked-disk.result s _ c.unlocked-disk.ensures.under c.unlocked-disk.ensures.ranges honest
    (all_steady S s (g.met.S.SharedDisk.whole s) (λ b real held. g.met.S.SharedDisk.lists s b real held) c.the_next_number_is_above.ensures c.a_case_is_there_between.ensures
    _ c.unlocked.result
    (λ real. honest_with S c.unlocked.result s _ c.unlocked.ensures.under (c.unlocked.ensures.ranges ∙ c.new.ensures.items) real (none_steady (S.looked s) (S.meanwhile s)))
    (ap S.looked c.unlocked.ensures.under) (ap S.size c.unlocked.ensures.under) finds.0 finds.1 shape x ys honest holds
    c.in_ok-places.places.numbers.items c.in_ok-places.places.ranges.items finds.2 later))

pub returns-in-Err : goal.returns-in-Err
returns-in-Err g c =
    let O = g.O.Output in (
      c.unlocked-disk.result,
      c.unlocked-disk.ensures.under,
      as_answered _ (question_said c.args.question) (O.taken c.args.output.now) (O.taken c.open_and_ask-asked.new.output) (O.failures c.args.output.now) (O.failures c.open_and_ask-asked.new.output)
          c.unlocked-disk.result c.open_and_ask-asked.result.1 c.open_and_ask-asked.result.0 (Err c.in-Err.fault) c.open_and_ask-asked.ensures.outcome c.in-Err.is,
    )
