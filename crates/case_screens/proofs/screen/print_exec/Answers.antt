use Rattle.std.proofs.Common.{ap, sym, ◌∙◌}
use Rattle.std.specs.Prelude.{codes}
use Rattle.script_streams.specs.PrintLaws.{prints_as}
use Rattle.case_screens.specs.Screen.{exec_text}
use Rattle.case_screens.specs.Texts.{refused_line}
use Rattle.case_screens.proofs.screen.print_exec.Goals as goal

pub returns-in-Ok : goal.returns-in-Ok
returns-in-Ok g c = prints_as (ap exec_text (sym c.in-Ok.is)) c.print_header.ensures

pub returns-in-Err : goal.returns-in-Err
returns-in-Err g c = prints_as (ap (refused_line (codes "header    ")) c.elf_reason.ensures ∙ ap exec_text (sym c.in-Err.is)) c.print_refused.ensures
