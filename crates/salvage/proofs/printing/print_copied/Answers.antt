use Rattle.std.proofs.Common.{ap}
use Rattle.script_streams.specs.PrintLaws.{prints_as}
use Rattle.salvage.specs.Texts.{case_line}
use Rattle.salvage.specs.Told.{copied_cases}
use Rattle.salvage.proofs.PrintLemmas.{all_copied, none_copied, one_copied}
use Rattle.salvage.proofs.printing.print_copied.Goals as goal

pub loop-entry-init : goal.loop-entry-init
loop-entry-init g c = none_copied c.args.found.now

pub loop-entry-preserved : goal.loop-entry-preserved
loop-entry-preserved g c =
    let e = c.entry-item.result in
    let mark = c.mark_of-mark.result in
    one_copied c.args.found.now c.entries-entry-items.result.now c.loop-entry.entry-index e mark c.loop-entry-test.true c.entry-item.is c.loop-entry.invariant
    c.mark_of-mark.ensures (prints_as (ap (case_line e.seq mark) c.as_slice.ensures.value) c.print_case.ensures)

pub returns : goal.returns
returns g c =
    all_copied c.args.found.now c.entries-entry-items.result.now c.loop-entry.entry-index (copied_cases c.args.found.now) c.loop-entry-test.false c.entries-entry-items.ensures
    c.loop-entry.invariant
