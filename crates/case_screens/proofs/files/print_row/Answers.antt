use Rattle.std.proofs.Common.{◌≡◌, ◌-◌, length, ap, arith}
use Rattle.script_streams.specs.PrintLaws.{prints_then, prints_as}
use Rattle.case_tables.specs.Table.{spaces}
use Rattle.case_screens.specs.Texts.{name_text}
use Rattle.case_screens.proofs.files.print_row.Goals as goal

pub returns : goal.returns
returns g c =
    let room : c.room_after.result ≡ 34 - length (name_text c.args.file.now.front.name.now) = omega (arith, c.room_after.ensures) in
    prints_then c.print_label.ensures
    (prints_then (prints_then c.print_name.ensures (prints_then (prints_as (ap spaces room) c.print_spaces.ensures) c.print.ensures))
    (prints_then c.print_stored.ensures c.print-2.ensures))
