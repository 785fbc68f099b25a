use Rattle.std.proofs.Common.{Result, ap, sym, ◌∙◌}
use Rattle.core_notes.specs.DescriptorWords.{siginfo_bytes}
use Rattle.core_notes.specs.declared.signal_info.SigInfo.{SigInfo}
use Rattle.script_streams.specs.PrintLaws.{prints_as, prints_then}
use Rattle.case_screens.specs.ReasonWords.{found_view}
use Rattle.case_screens.specs.Signal.{met_or_kept}
use Rattle.case_screens.specs.declared.reason.Reason.{Reason}
use Rattle.case_screens.proofs.signal.print_met_or_kept.Goals as goal

pub returns-in-Ok : goal.returns-in-Ok
returns-in-Ok g c =
    prints_as (ap (λ (r : Result SigInfo Reason). met_or_kept c.args.signal (found_view siginfo_bytes r)) (sym c.in-Ok.is) ∙ ap (met_or_kept c.args.signal) c.signal_of.ensures)
    c.print_cause.ensures

pub returns-in-Err : goal.returns-in-Err
returns-in-Err g c =
    prints_as (ap (λ (r : Result SigInfo Reason). met_or_kept c.args.signal (found_view siginfo_bytes r)) (sym c.in-Err.is) ∙ ap (met_or_kept c.args.signal) c.signal_of.ensures)
    (prints_then c.print_signal.ensures (prints_then c.print.ensures c.print_refusal.ensures))
