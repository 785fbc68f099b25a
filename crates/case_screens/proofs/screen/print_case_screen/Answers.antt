use Rattle.std.proofs.Common.{ap, map, sym}
use Rattle.journal_layout.specs.Case.{case_of}
use Rattle.script_streams.specs.PrintLaws.{prints_as, prints_then}
use Rattle.case_screens.specs.Screen.{info_answer}
use Rattle.case_screens.proofs.screen.print_case_screen.Goals as goal

pub returns-in-Core : goal.returns-in-Core
returns-in-Core g c = record {
  is_screen = prints_as (ap (info_answer c.args.zone (case_of c.args.case.now) (map case_of c.args.cases.now)) (sym c.in-Core.is))
      (prints_then c.print_head.ensures c.print_core.ensures);
}

pub returns-in-Exec : goal.returns-in-Exec
returns-in-Exec g c = record {
  is_screen = prints_as (ap (info_answer c.args.zone (case_of c.args.case.now) (map case_of c.args.cases.now)) (sym c.in-Exec.is))
      (prints_then c.print_head.ensures c.print_exec.ensures);
}
