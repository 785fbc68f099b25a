use Rattle.std.proofs.Common.{◌++◌, ap, sym, subst, ◌∙◌, append_assoc}
use Rattle.std.proofs.lemmas.Result.{err_from_is_err_and}
use Rattle.frame_replies.specs.WalkLaws.{walk_goes_on}
use Rattle.case_queries.specs.Pieces.{ArePieces}
use Rattle.case_queries.proofs.MoreLemmas.{stops_so}
use Rattle.case_queries.proofs.frames.walk_frames.Goals as goal

pub returns-in_err-read_more-in-Err-Unread-clause-finds : goal.returns-in_err-read_more-in-Err-Unread-clause-finds
returns-in_err-read_more-in-Err-Unread-clause-finds g c before xs thread reads begins =
    let p = err_from_is_err_and c.from_residual.result c.from_residual.ensures.1 in
    let sees = c.in_err-read_more-in-Err-Unread.ensures.sees before (c.loop-count.invariant.sees before reads) in
    rw (p.1, p.2) (stops_so g.D.Disk before c.read_more.new.archive c.args.image c.read_more.new.pieces.items c.args.pieces.now.items xs thread c.args.process.now c.go_on.new.walk c.in_err-read_more-in-Err-Unread.field-0.0 sees)

pub returns-in-Ok-clause-finds : goal.returns-in-Ok-clause-finds
returns-in-Ok-clause-finds g c before stored thread sees begins =
    let so_far = c.loop-count.invariant in
    let now = so_far.sees before sees in
    let b = now.0 in
    let has = now.2 in
    let walk = so_far.walks b stored thread has (begins b (has.0, so_far.earlier b has.1)) in (
      b,
      now.1,
      (has.0, so_far.earlier b has.1),
      walk_goes_on b stored thread c.args.process.now c.loop-count.walk c.go_on.new.walk walk (c.in-Ok.ensures.walks b (has.0, subst (ArePieces b) (sym c.deref.ensures.value) has.1)),
      c.in-Ok.ensures.told,
    )

pub returns-in-Ok-clause-behind : goal.returns-in-Ok-clause-behind
returns-in-Ok-clause-behind g c = c.loop-count.invariant.behind

pub returns-in-Ok-clause-sees : goal.returns-in-Ok-clause-sees
returns-in-Ok-clause-sees g c before sees =
    let so_far = c.loop-count.invariant in
    let now = so_far.sees before sees in
    (now.0, now.1, (now.2.0, so_far.earlier now.0 now.2.1))

pub returns-in-Err-OutOfMemory-clause-finds : goal.returns-in-Err-OutOfMemory-clause-finds
returns-in-Err-OutOfMemory-clause-finds g c before stored thread sees begins = let now = c.loop-count.invariant.sees before sees in (now.0, now.1, now.2.0)

pub returns-clause-finds : goal.returns-clause-finds
returns-clause-finds g c before stored thread sees begins = let now = c.loop-count.invariant.sees before sees in (now.0, now.1, now.2.0)

pub loop-count-preserved : goal.loop-count-preserved
loop-count-preserved g c =
    let so_far = c.loop-count.invariant in
    let read = c.in_ok-read_more-in-Err-Unread.ensures in
    let more = read.read in record {
      has = read.has;
      some = more.some so_far.some.0 so_far.some.1;
      earlier = λ b are. so_far.earlier b (more.fewer b are);
      sees = λ before reads. read.sees before (so_far.sees before reads);
      behind = (
        so_far.behind.0 ++ read.behind.0,
        read.behind.1 ∙ ap (λ ps. ps ++ read.behind.0) so_far.behind.1 ∙ append_assoc c.args.pieces.now.items so_far.behind.0 read.behind.0,
      );
      walks = λ b xs thread begins is.
          let fewer = more.fewer b begins.1 in
          walk_goes_on b xs thread c.args.process.now c.loop-count.walk c.go_on.new.walk (so_far.walks b xs thread (begins.0, fewer) is) (c.go_on.ensures.walks b (begins.0, subst (ArePieces b) (sym c.deref.ensures.value) fewer));
    }
