use Rattle.std.proofs.Common.{Some, ap, sym, ◌∙◌}
use Rattle.core_checks.specs.declared.notes.UnreadNotes.{UnreadNotes}
use Rattle.script_streams.specs.PrintLaws.{prints_as, prints_nothing}
use Rattle.case_screens.specs.Screen.{notes_line}
use Rattle.case_screens.proofs.screen.print_unread.Goals as goal

pub returns-in-Some-Padded : goal.returns-in-Some-Padded
returns-in-Some-Padded g c =
    let kind = rw c.in-Some-Padded.is at c.in-Some-Padded.field-0-is in
    prints_as (ap (λ (n : UnreadNotes). notes_line (Some n)) (sym kind) ∙ ap notes_line (sym c.in-Some-Padded.is)) c.print.ensures

pub returns-in-Some-Linux : goal.returns-in-Some-Linux
returns-in-Some-Linux g c =
    let kind = rw c.in-Some-Linux.is at c.in-Some-Linux.field-0-is in
    prints_as (ap (λ (n : UnreadNotes). notes_line (Some n)) (sym kind) ∙ ap notes_line (sym c.in-Some-Linux.is)) c.print-in-Some-Linux.ensures

pub returns-in-None : goal.returns-in-None
returns-in-None g c = prints_as (ap notes_line (sym c.in-None.is)) prints_nothing
