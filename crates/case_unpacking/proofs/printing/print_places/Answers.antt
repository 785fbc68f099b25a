use Rattle.std.proofs.Common.{arith, ap}
use Rattle.std.specs.List.{flat_map}
use Rattle.script_streams.specs.PrintLaws.{prints_as, prints_then}
use Rattle.case_unpacking.specs.Told.{place_line}
use Rattle.case_unpacking.proofs.ContentLemmas.{pairs_all, pairs_more}
use Rattle.case_unpacking.proofs.printing.print_places.Goals as goal

pub loop-at-preserved : goal.loop-at-preserved
loop-at-preserved g c =
    let least = c.min-count.ensures in
    prints_as (pairs_more place_line c.args.named.now c.args.places.now c.loop-at.at _ _ (omega (arith, c.loop-at-test.true, least)) (omega (arith, c.loop-at-test.true, least)))
    (prints_then c.loop-at.invariant c.print_place.ensures)

pub returns : goal.returns
returns g c =
    let least = c.min-count.ensures in
    prints_as (ap (flat_map place_line) (pairs_all c.args.named.now c.args.places.now c.loop-at.at (λ low. omega (arith, low, c.loop-at-test.false, least)))) c.loop-at.invariant
