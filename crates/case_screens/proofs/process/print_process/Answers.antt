use Rattle.std.proofs.Common.{Result, ap, sym, ◌∙◌}
use Rattle.core_notes.specs.DescriptorWords.{psinfo_bytes}
use Rattle.core_notes.specs.declared.process_info.PsInfo.{PsInfo}
use Rattle.script_streams.specs.PrintLaws.{prints_as}
use Rattle.case_screens.specs.Process.{process_text}
use Rattle.case_screens.specs.ReasonWords.{found_view}
use Rattle.case_screens.specs.declared.reason.Reason.{Reason}
use Rattle.case_screens.proofs.process.print_process.Goals as goal

pub returns-in-Ok : goal.returns-in-Ok
returns-in-Ok g c =
    prints_as (ap (λ (r : Result PsInfo Reason). process_text (found_view psinfo_bytes r)) (sym c.in-Ok.is) ∙ ap process_text c.process_of.ensures) c.print_known_process.ensures

pub returns-in-Err : goal.returns-in-Err
returns-in-Err g c =
    prints_as (ap (λ (r : Result PsInfo Reason). process_text (found_view psinfo_bytes r)) (sym c.in-Err.is) ∙ ap process_text c.process_of.ensures) c.print_refused.ensures
