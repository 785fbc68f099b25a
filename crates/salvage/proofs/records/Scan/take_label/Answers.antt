use Rattle.std.proofs.Common.{refl, arith, Some}
use Rattle.salvage.proofs.ReadsLemmas.{set_from, set_stays}
use Rattle.salvage.proofs.records.Scan.take_label.Goals as goal

pub returns-then-index-len-clause-stay : goal.returns-then-index-len-clause-stay
returns-then-index-len-clause-stay c =
    let r = c.index_mut.result.now in
    let reads = c.args.self.now.reads in
    set_stays reads.items c.in-Some.index.now r (record r { label = Some c.args.place })
    (omega (arith, c.if-index-len.true, c.len.ensures, reads.ok)) c.index_mut.ensures.value refl
    (record { seq = refl; image = record { origin = refl; len = refl; blocks = refl } })

pub returns-then-index-len-clause-from : goal.returns-then-index-len-clause-from
returns-then-index-len-clause-from c =
    let r = c.index_mut.result.now in
    let reads = c.args.self.now.reads in
    set_from reads.items c.in-Some.index.now r (record r { label = Some c.args.place })
    (omega (arith, c.if-index-len.true, c.len.ensures, reads.ok)) c.index_mut.ensures.value refl
    (record { seq = refl; image = record { origin = refl; len = refl; blocks = refl } })
