use Rattle.std.proofs.Common.{ap, sym, ◌∙◌}
use Rattle.std.specs.Prelude.{◌||◌, is_some}
use Rattle.script_streams.specs.PrintLaws.{prints_then, prints_as}
use Rattle.case_screens.proofs.ThreadLemmas.{function_told, or_right}
use Rattle.case_screens.proofs.threads.print_function.Goals.{then-frame-via-then-frame, then-frame-via-else-frame+then-is_some}
use Rattle.case_screens.proofs.threads.print_function.Goals as goal

pub returns-then-frame : goal.returns-then-frame
returns-then-frame g c =
    let f = c.args.frame.now in
    let told = prints_then c.print.ensures c.print_place.ensures in
    elim c.then-frame.branch [
      | then-frame-via-then-frame w ↦ prints_as (function_told f (ap (λ b. b || is_some f.function) w.if-frame.true)) told
      | then-frame-via-else-frame+then-is_some w ↦ prints_as (function_told f (or_right f.signal (is_some f.function) (sym w.is_some.ensures ∙ w.if-is_some.true))) told
    ]
