use Rattle.std.proofs.Common.{Result, ap, sym}
use Rattle.std.specs.Prelude.{codes}
use Rattle.image_replies.specs.declared.core_image.CoreFault.{CoreFault}
use Rattle.image_replies.specs.declared.core_image.CoreImage.{CoreImage}
use Rattle.script_streams.specs.PrintLaws.{prints_then, prints_as}
use Rattle.case_screens.specs.Core.{notes_read}
use Rattle.case_screens.specs.Frames.{threads_text}
use Rattle.case_screens.specs.Texts.{refused_line}
use Rattle.case_screens.proofs.threads.print_threads.Goals as goal

pub returns-in-Ok : goal.returns-in-Ok
returns-in-Ok g c =
    prints_as (ap (λ (r : Result CoreImage CoreFault). threads_text (notes_read r) c.args.unwound.now) (sym c.in-Ok.is)) c.print_shown.ensures

pub returns-in-Err : goal.returns-in-Err
returns-in-Err g c =
    prints_as (ap (λ (r : Result CoreImage CoreFault). threads_text (notes_read r) c.args.unwound.now) (sym c.in-Err.is))
    (prints_then (prints_as (ap (refused_line (codes "thread    ")) c.core_reason-reason.ensures) c.print_refused.ensures)
    (prints_as (ap (refused_line (codes "frames    ")) c.core_reason-reason.ensures) c.print_refused-in-Err.ensures))
