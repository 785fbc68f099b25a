use Rattle.std.proofs.Common.{inr, ◌++◌, [], length, take, drop, ap, subst, sym, ◌∙◌, arith, length-take-le}
use Rattle.std.proofs.lemmas.List.{take-append-le}
use Rattle.std.proofs.KnownBytes.{Consumes-kept, Consumes-nil}
use Rattle.intake.specs.Parts.{state_of}
use Rattle.inspector_cli.specs.Reply.{Takes}
use Rattle.inspector_cli.specs.Stated.{HashesOn}
use Rattle.inspector_cli.proofs.StatedLemmas.{hashes_none}
use Rattle.inspector_cli.proofs.FitLemmas.{took_some}
use Rattle.inspector_cli.proofs.FeedLemmas.{lent_takes, lent_length, lent_some, lent_few, fed}
use Rattle.inspector_cli.proofs.RoomLemmas.{states_agree, still_fits}
use Rattle.inspector_cli.proofs.SpentLemmas.{advanced_by, advanced_some, read_few}
use Rattle.inspector_cli.proofs.store.take_more.Goals as goal

pub returns-in_default-read-clause-more : goal.returns-in_default-read-clause-more
returns-in_default-read-clause-more g c = λ begun so_far taken.
    let is = c.in_default.is in
    let long = lent_length c.read.new.into c.room-lent.result.1.now c.min-size.result c.args.most c.read.auto.into c.min-size.ensures in
    let lent = rw is at c.room-lent.ensures.lent in
    let some = rw is at c.room-lent.ensures.never_empty in
    rw is (
      Consumes-kept (g.I.Input.remaining c.args.file.now) (g.I.Input.remaining c.args.file.now) (g.I.Input.remaining c.read.new.self) [] (Consumes-nil (g.I.Input.remaining c.args.file.now)) c.in_default-read.ensures.bytes,
      c.in_default-read.ensures.err,
      lent_takes g.D.Disk begun c.args.archive.now 0 so_far (c.read.new.into ++ drop c.min-size.result c.room-lent.result.1.now) tt taken (long ∙ ap length lent) (omega (arith, long, some)),
    )

pub returns-then-count-eq0-clause-more : goal.returns-then-count-eq0-clause-more
returns-then-count-eq0-clause-more g c = λ begun so_far taken.
    let is = c.in_default.is in
    let long = lent_length c.read.new.into c.room-lent.result.1.now c.min-size.result c.args.most c.read.auto.into c.min-size.ensures in
    let lent = rw is at c.room-lent.ensures.lent in
    let some = rw is at c.room-lent.ensures.never_empty in
    let none = c.if-count-eq0.true in
    rw is (
      rw none at c.in-Ok.ensures.bytes.0,
      c.in-Ok.ensures.bytes.1 none (lent_some c.read.new.into c.room-lent.result.1.now c.min-size.result c.args.most c.read.auto.into c.min-size.ensures some c.requires),
      c.in-Ok.ensures.ok,
      lent_takes g.D.Disk begun c.args.archive.now 0 so_far (c.read.new.into ++ drop c.min-size.result c.room-lent.result.1.now) tt taken (long ∙ ap length lent) (omega (arith, long, some)),
      hashes_none c.args.hasher.now,
    )

pub advance-requires : goal.advance-requires
advance-requires g c =
    still_fits c.args.archive.now 0 c.room-lent.result.0 _ c.in-Ok.count (length c.room-lent.result.1.now)
    (lent_few c.read.new.into c.room-lent.result.1.now c.min-size.result c.args.most c.in-Ok.count c.read.auto.into c.min-size.ensures c.in-Ok.ensures.count)
    (rw c.in_default.is at c.room-lent.ensures.fits)

pub returns-in-Err-advance-clause-more : goal.returns-in-Err-advance-clause-more
returns-in-Err-advance-clause-more g c = λ begun so_far taken.
    let is = c.in_default.is in
    let few = c.in-Ok.ensures.count in
    let long = lent_length c.read.new.into c.room-lent.result.1.now c.min-size.result c.args.most c.read.auto.into c.min-size.ensures in
    let size = length-take-le c.in-Ok.count c.read.new.into few in
    let lent = rw is at c.room-lent.ensures.lent in
    let some = rw is at c.room-lent.ensures.never_empty in
    let call = rw is at c.advance.ensures in (
      take c.in-Ok.count c.read.new.into,
      c.in-Ok.ensures.bytes.0,
      c.in-Ok.ensures.ok,
      rw c.in-Err-advance.is at (fed g.D.Disk begun c.args.archive.now 0 so_far (c.read.new.into ++ drop c.min-size.result c.room-lent.result.1.now) tt taken (long ∙ ap length lent) (omega (arith, long, some))
          c.advance.new.self c.in-Ok.count (length c.room-lent.result.1.now) (take c.in-Ok.count c.read.new.into) c.advance.result
          (sym (take-append-le c.in-Ok.count c.read.new.into (drop c.min-size.result c.room-lent.result.1.now) few)) size
          (lent_few c.read.new.into c.room-lent.result.1.now c.min-size.result c.args.most c.in-Ok.count c.read.auto.into c.min-size.ensures few) (rw is at c.room-lent.ensures.fits) call),
    )

pub returns-clause-more : goal.returns-clause-more
returns-clause-more g c = λ begun so_far taken.
    let is = c.in_default.is in
    let few = c.in-Ok.ensures.count in
    let long = lent_length c.read.new.into c.room-lent.result.1.now c.min-size.result c.args.most c.read.auto.into c.min-size.ensures in
    let size = length-take-le c.in-Ok.count c.read.new.into few in
    let lent = rw is at c.room-lent.ensures.lent in
    let some = rw is at c.room-lent.ensures.never_empty in
    let call = rw is at c.advance.ensures in
    took_some (g.I.Input.remaining c.args.file.now) (g.I.Input.remaining c.read.new.self) (g.I.Input.failures c.args.file.now) (g.I.Input.failures c.read.new.self) so_far (HashesOn c.args.hasher.now c.hash_on.new.hasher)
    (λ raw v. Takes g.D.Disk begun 0 raw v c.advance.new.self) c.in-Ok.count c.if-count-eq0.false (
      take c.in-Ok.count c.read.new.into,
      c.in-Ok.ensures.bytes.0,
      size,
      c.in-Ok.ensures.ok,
      rw c.in_default-advance.is at (fed g.D.Disk begun c.args.archive.now 0 so_far (c.read.new.into ++ drop c.min-size.result c.room-lent.result.1.now) tt taken (long ∙ ap length lent) (omega (arith, long, some))
          c.advance.new.self c.in-Ok.count (length c.room-lent.result.1.now) (take c.in-Ok.count c.read.new.into) c.advance.result
          (sym (take-append-le c.in-Ok.count c.read.new.into (drop c.min-size.result c.room-lent.result.1.now) few)) size
          (lent_few c.read.new.into c.room-lent.result.1.now c.min-size.result c.args.most c.in-Ok.count c.read.auto.into c.min-size.ensures few) (rw is at c.room-lent.ensures.fits) call),
      subst (HashesOn c.args.hasher.now c.hash_on.new.hasher) (take-append-le c.in-Ok.count c.read.new.into (drop c.min-size.result c.room-lent.result.1.now) few) c.hash_on.ensures,
    )

pub returns-in_default-read-clause-advances : goal.returns-in_default-read-clause-advances
returns-in_default-read-clause-advances g c = states_agree c.args.archive.now 0 c.room-lent.result.0 _

pub returns-then-count-eq0-clause-advances : goal.returns-then-count-eq0-clause-advances
returns-then-count-eq0-clause-advances g c = states_agree c.args.archive.now 0 c.room-lent.result.0 _

pub returns-in-Err-advance-clause-advances : goal.returns-in-Err-advance-clause-advances
returns-in-Err-advance-clause-advances g c =
    inr (rw c.in-Err-advance.is at (advanced_by c.args.archive.now c.room-lent.result.0 (c.read.new.into ++ drop c.min-size.result c.room-lent.result.1.now) c.in-Ok.count c.args.most (length c.room-lent.result.1.now) c.advance.result (state_of c.advance.new.self)
    (lent_few c.read.new.into c.room-lent.result.1.now c.min-size.result c.args.most c.in-Ok.count c.read.auto.into c.min-size.ensures c.in-Ok.ensures.count)
    (read_few c.read.new.into c.room-lent.result.1.now c.min-size.result c.args.most c.in-Ok.count c.read.auto.into c.min-size.ensures c.in-Ok.ensures.count)
    (rw c.in_default.is at c.room-lent.ensures.fits) c.advance.ensures.step))

pub returns-clause-advances : goal.returns-clause-advances
returns-clause-advances g c =
    advanced_some c.args.most (state_of c.args.archive.now) (state_of c.advance.new.self) c.in-Ok.count c.if-count-eq0.false
    (rw c.in_default-advance.is at (advanced_by c.args.archive.now c.room-lent.result.0 (c.read.new.into ++ drop c.min-size.result c.room-lent.result.1.now) c.in-Ok.count c.args.most (length c.room-lent.result.1.now) c.advance.result (state_of c.advance.new.self)
    (lent_few c.read.new.into c.room-lent.result.1.now c.min-size.result c.args.most c.in-Ok.count c.read.auto.into c.min-size.ensures c.in-Ok.ensures.count)
    (read_few c.read.new.into c.room-lent.result.1.now c.min-size.result c.args.most c.in-Ok.count c.read.auto.into c.min-size.ensures c.in-Ok.ensures.count)
    (rw c.in_default.is at c.room-lent.ensures.fits) c.advance.ensures.step))

pub returns-clause-few : goal.returns-clause-few
returns-clause-few g c = read_few c.read.new.into c.room-lent.result.1.now c.min-size.result c.args.most c.in-Ok.count c.read.auto.into c.min-size.ensures c.in-Ok.ensures.count
