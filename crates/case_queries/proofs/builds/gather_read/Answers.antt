use Rattle.std.proofs.Common.{Err, sym, subst, arith}
use Rattle.std.proofs.lemmas.Result.{err_from_is_err_and}
use Rattle.seen_memory.specs.declared.gathered.GatherFault.TheVariants.{Unread}
use Rattle.case_queries.specs.FrontIds.{GathersOn}
use Rattle.case_queries.specs.Pieces.{ArePieces}
use Rattle.case_queries.proofs.BuildLemmas.{more_then, same_pieces}
use Rattle.case_queries.proofs.builds.gather_read.Goals as goal

pub loop-count-init : goal.loop-count-init
loop-count-init g c = record {
  has = c.requires.has;
  few = c.requires.few;
  more = same_pieces c.args.image c.args.pieces.now.items;
  sees = λ before sees. sees;
  stays = λ image begins is. is;
}

pub returns-in-Err-OutOfMemory-clause-sees : goal.returns-in-Err-OutOfMemory-clause-sees
returns-in-Err-OutOfMemory-clause-sees g c before sees = let now = c.loop-count.invariant.sees before sees in (now.0, now.1, now.2.0)

pub returns-in_err-read_more-in-Err-Unread-clause-sees : goal.returns-in_err-read_more-in-Err-Unread-clause-sees
returns-in_err-read_more-in-Err-Unread-clause-sees g c before sees =
    let p = err_from_is_err_and c.from_residual.result c.from_residual.ensures.1 in
    rw (p.1, p.2) (c.in_err-read_more-in-Err-Unread.ensures.sees before (c.loop-count.invariant.sees before sees))

pub loop-count-preserved : goal.loop-count-preserved
loop-count-preserved g c =
    let so_far = c.loop-count.invariant in
    let ps = c.deref.result.now in
    let new = c.gather_on.new.bytes.items in
    let gathered : GathersOn c.args.image ps c.args.start c.args.count c.loop-count.bytes.items (Err (Unread c.in-Err-Unread.unread)) new =
    subst (λ f. GathersOn c.args.image ps c.args.start c.args.count c.loop-count.bytes.items (Err f) new) c.in-Err-Unread.field-0-is c.in-Err-Unread.ensures in
    let read = c.in_ok-read_more-in-Err-Unread.ensures in record {
      has = read.has;
      few = (let few = gathered.1 in omega (arith, few));
      more = more_then c.args.image c.args.pieces.now.items c.loop-count.pieces.items c.read_more.new.pieces.items so_far.more read.read;
      sees = λ before sees. read.sees before (so_far.sees before sees);
      stays = λ image begins is.
          let fewer = read.read.fewer image begins.1 in
          gathered.0 image (begins.0, subst (ArePieces image) (sym c.deref.ensures.value) fewer) (so_far.stays image (begins.0, fewer) is);
    }

pub returns-clause-sees : goal.returns-clause-sees
returns-clause-sees g c before sees = let now = c.loop-count.invariant.sees before sees in (now.0, now.1, now.2.0)
