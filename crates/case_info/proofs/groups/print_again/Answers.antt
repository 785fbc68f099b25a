use Rattle.std.proofs.Common.{◌≡◌, true, Ok, rules}
use Rattle.std.specs.List.{list_all}
use Rattle.intake.specs.Parts.{state_of}
use Rattle.archive_files.specs.UnlockedFinding.{has_number}
use Rattle.case_info.proofs.GroupLemmas.{prints_by}
use Rattle.case_info.proofs.groups.print_again.Goals as goal

pub returns-else-not-has_each : goal.returns-else-not-has_each
returns-else-not-has_each g c =
    let each : list_all (has_number (state_of c.in-Ok.archive)) c.args.numbers.now ≡ true = search (c.has_each.ensures, c.if-not-has_each.false, rules) in
    (Ok c.in-Ok.archive, c.in-Ok.ensures, prints_by c.in-Ok.archive c.args.numbers.now c.args.crashes.items c.args.form c.print_there.result each c.print_there.ensures)
