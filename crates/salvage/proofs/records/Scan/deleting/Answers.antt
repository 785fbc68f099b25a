use Rattle.std.proofs.Common.{List, subst, arith}
use Rattle.std.specs.List.{Contains}
use Rattle.salvage.specs.Records.{IsDeleted}
use Rattle.salvage.specs.declared.records.Dropped.{Dropped}
use Rattle.salvage.proofs.DropLemmas.{deleted_there, named_there}
use Rattle.salvage.proofs.records.Scan.deleting.Goals as goal

pub returns-in-Some-clause-deleted : goal.returns-in-Some-clause-deleted
returns-in-Some-clause-deleted c =
    let f = c.in-Some.ensures.lookup in
    subst (λ (ds : List Dropped). IsDeleted ds c.args.seq) c.deref.ensures.value
    (deleted_there c.deref.result.now c.in_ok-index.field-0.now c.in-Some.dropped.now c.args.seq (omega (arith, f.0)) f.1 c.if-dropped-seq.true)

pub returns-in-Some-clause-place : goal.returns-in-Some-clause-place
returns-in-Some-clause-place c =
    let f = c.in-Some.ensures.lookup in
    subst (λ (ds : List Dropped). Contains ds (record { seq = c.args.seq; place = c.in-Some.dropped.now.place })) c.deref.ensures.value
    (named_there c.deref.result.now c.in_ok-index.field-0.now c.in-Some.dropped.now c.args.seq (omega (arith, f.0)) f.1 c.if-dropped-seq.true)
