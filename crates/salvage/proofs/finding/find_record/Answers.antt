use Rattle.std.proofs.Common.{◌≡◌, length, arith}
use Rattle.salvage.proofs.PatchLemmas.{record_found, record_none}
use Rattle.salvage.proofs.finding.find_record.Goals as goal

pub returns-in-Some-clause-record : goal.returns-in-Some-clause-record
returns-in-Some-clause-record g c = λ honest.
    let s = c.args.source.now in
    let b = g.S.Source.seen s in
    let whole : length b ≡ g.S.Source.size s = g.met.S.Source.whole s honest in
    record_found b c.args.fault c.args.at c.min.result c.in-Some.gate c.in_ok-gate.field-0 c.in-Some.is
    (λ place low within. omega (arith, low, within, whole, c.min.ensures, c.length-size.ensures))
    (omega (arith, whole, c.in_ok-gate.ensures.within c.in-Some.gate c.in-Some.is)) (c.in_ok-gate.ensures.last honest)

pub returns-in-None-clause-record : goal.returns-in-None-clause-record
returns-in-None-clause-record g c = λ honest.
    let s = c.args.source.now in
    let b = g.S.Source.seen s in
    let whole : length b ≡ g.S.Source.size s = g.met.S.Source.whole s honest in
    record_none b c.args.fault c.args.at c.min.result c.in_ok-gate.field-0 c.in-None.is
    (λ place low within. omega (arith, low, within, whole, c.min.ensures, c.length-size.ensures))
    (c.in_ok-gate.ensures.last honest)
