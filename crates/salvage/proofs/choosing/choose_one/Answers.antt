use Rattle.std.proofs.Common.{refl, arith}
use Rattle.salvage.proofs.ReadsLemmas.{same_again, set_from, set_stays}
use Rattle.journal_layout.specs.Case.{case_of}
use Rattle.salvage.proofs.choosing.choose_one.Goals as goal

pub returns-clause-stay : goal.returns-clause-stay
returns-clause-stay c =
    let r = c.index_mut.result.now in
    let reads = c.args.scan.now.reads in
    set_stays reads.items c.args.index r (record r { fate = c.fate_of-fate.result })
    (omega (arith, c.if-index-len.false, c.len.ensures, reads.ok)) c.index_mut.ensures.value refl (same_again (case_of r.entry))

pub returns-clause-from : goal.returns-clause-from
returns-clause-from c =
    let r = c.index_mut.result.now in
    let reads = c.args.scan.now.reads in
    set_from reads.items c.args.index r (record r { fate = c.fate_of-fate.result })
    (omega (arith, c.if-index-len.false, c.len.ensures, reads.ok)) c.index_mut.ensures.value refl (same_again (case_of r.entry))
