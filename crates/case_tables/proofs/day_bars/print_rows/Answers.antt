use Rattle.std.proofs.Common.{◌≡◌, length, sym, rules}
use Rattle.script_streams.specs.PrintLaws.{prints_as, prints_nothing, prints_then}
use Rattle.case_tables.proofs.DayBarLemmas.{seven_rows}
use Rattle.case_tables.proofs.day_bars.print_rows.Goals as goal

pub returns : goal.returns
returns g c =
    let counts = c.args.counts.now in
    let seven : length counts ≡ 7 = search (rules, c.type_inv.counts) in
    prints_as (sym (seven_rows c.args.greatest c.args.day counts seven))
    (prints_then c.print_row.ensures (prints_then c.print_row-2.ensures (prints_then c.print_row-3.ensures (prints_then c.print_row-4.ensures
    (prints_then c.print_row-5.ensures (prints_then c.print_row-6.ensures (prints_then c.print_row-7.ensures prints_nothing)))))))
