use Rattle.std.proofs.Common.{Ok, subst, arith}
use Rattle.build_ids.specs.Fronts.{GivesId}
use Rattle.case_queries.proofs.BuildLemmas.{begins_still, id_found, more_then, sees_kept}
use Rattle.case_queries.proofs.builds.read_id.Goals as goal

pub returns-in-Ok-clause-sees : goal.returns-in-Ok-clause-sees
returns-in-Ok-clause-sees g c before sees =
    sees_kept g.D.Disk before c.loop-id.archive c.args.image c.loop-id.pieces.items _ c.kept_id.result (c.loop-id.invariant.sees before sees) c.kept_id.ensures

pub returns-in-Ok-clause-id : goal.returns-in-Ok-clause-id
returns-in-Ok-clause-id g c =
    let front = c.args.front in
    let so_far = c.loop-id.invariant in
    let states = subst (λ b. GivesId b front.count (Ok c.in-Ok.id)) c.deref.ensures.value c.in-Ok.ensures in
    id_found c.args.image c.args.pieces.now.items c.loop-id.pieces.items front c.loop-id.bytes.items c.in-Ok.id c.kept_id.result so_far.more so_far.gathered so_far.few c.requires.within states c.kept_id.ensures

pub loop-id-preserved : goal.loop-id-preserved
loop-id-preserved g c =
    let so_far = c.loop-id.invariant in
    let read = c.in_ok-gather_read-in-Err.ensures in
    let short = c.in-Err.ensures in record {
      has = read.has;
      few = (let long = read.read.2 in let most = short.1 in omega (arith, long, most));
      more = more_then c.args.image c.args.pieces.now.items c.loop-id.pieces.items c.gather_read.new.pieces.items so_far.more read.read.0;
      sees = λ before sees. read.sees before (so_far.sees before sees);
      gathered = λ image begins. read.read.1 image begins (so_far.gathered image (begins_still c.args.image c.loop-id.pieces.items c.gather_read.new.pieces.items image read.read.0 begins));
    }
