use Rattle.std.proofs.Common.{length, take, sym, ap, ◌∙◌, arith, length-take-le, ◌++◌, drop}
use Rattle.std.proofs.lemmas.List.{take-append-le}
use Rattle.std.proofs.lemmas.Result.{err_from_is_err_and}
use Rattle.inspector_cli.proofs.FeedLemmas.{lent_takes, fed, lent_length}
use Rattle.inspector_cli.proofs.GiveLemmas.{first_of}
use Rattle.inspector_cli.proofs.RoomLemmas.{still_fits, has_room}
use Rattle.intake.specs.Parts.{state_of}
use Rattle.inspector_cli.proofs.parts.fill_piece.Goals as goal

pub returns-in-Err-clause-takes : goal.returns-in-Err-clause-takes
returns-in-Err-clause-takes g c = λ begun so_far taken.
    absurd (has_room (state_of begun) _ c.args.slot (length so_far) tt c.in-Err.fault taken.step (rw c.in-Err.is at c.room-lent.ensures.reply))

pub returns-in_err-taken-clause-takes : goal.returns-in_err-taken-clause-takes
returns-in_err-taken-clause-takes g c = λ begun so_far taken.
    let p = err_from_is_err_and c.from_residual.result c.from_residual.ensures.1 in
    let is = c.in_default.is in
    let long = lent_length c.next_raw.new.into c.room-lent.result.1.now c.min-size.result c.args.most c.next_raw.auto.into c.min-size.ensures in
    let lent = rw is at c.room-lent.ensures.lent in
    let some = rw is at c.room-lent.ensures.never_empty in
    rw (p.1, is) (
      c.in_err-taken.ensures.gives.0,
      c.in_err-taken.ensures.gives.1,
      lent_takes g.D.Disk begun c.args.archive.now c.args.slot so_far (c.next_raw.new.into ++ drop c.min-size.result c.room-lent.result.1.now) tt taken (long ∙ ap length lent) (omega (arith, long, some)),
    )

pub advance-answer-requires : goal.advance-answer-requires
advance-answer-requires g c =
    still_fits c.args.archive.now c.args.slot c.room-lent.result.0 _ c.in_ok-taken.taken (length c.room-lent.result.1.now)
    (first_of c.in_ok-taken.taken c.args.most c.min-size.result c.next_raw.new.into c.room-lent.result.1.now c.in_ok-taken.ensures.gives.0 c.next_raw.auto.into c.min-size.ensures).0
    (rw c.in_default.is at c.room-lent.ensures.fits)

pub returns-clause-takes : goal.returns-clause-takes
returns-clause-takes g c = λ begun so_far taken.
    let is = c.in_default.is in
    let few = c.in_ok-taken.ensures.gives.0 in
    let first = first_of c.in_ok-taken.taken c.args.most c.min-size.result c.next_raw.new.into c.room-lent.result.1.now few c.next_raw.auto.into c.min-size.ensures in
    let size = length-take-le c.in_ok-taken.taken c.next_raw.new.into few in
    let long = lent_length c.next_raw.new.into c.room-lent.result.1.now c.min-size.result c.args.most c.next_raw.auto.into c.min-size.ensures in
    let lent = rw is at c.room-lent.ensures.lent in
    let some = rw is at c.room-lent.ensures.never_empty in
    let call = rw is at c.advance-answer.ensures in (
      take c.in_ok-taken.taken c.next_raw.new.into,
      size,
      first.1,
      c.in_ok-taken.ensures.gives.1,
      c.in_ok-taken.ensures.gives.2,
      fed g.D.Disk begun c.args.archive.now c.args.slot so_far (c.next_raw.new.into ++ drop c.min-size.result c.room-lent.result.1.now) tt taken (long ∙ ap length lent) (omega (arith, long, some))
          c.advance-answer.new.self c.in_ok-taken.taken (length c.room-lent.result.1.now) (take c.in_ok-taken.taken c.next_raw.new.into) c.advance-answer.result
          (sym (take-append-le c.in_ok-taken.taken c.next_raw.new.into (drop c.min-size.result c.room-lent.result.1.now) few)) size first.0
          (rw is at c.room-lent.ensures.fits) call,
    )
