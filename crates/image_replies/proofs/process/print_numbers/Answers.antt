use Rattle.std.proofs.Common.{rules, ap}
use Rattle.std.proofs.Common.{w32}
use Rattle.image_replies.proofs.TextLemmas.{signed_as}
use Rattle.std.specs.Prelude.{◌++◌, codes}
use Rattle.std.specs.Fmt.{signed_decimal}
use Rattle.script_streams.specs.PrintLaws.{prints_then, prints_as}
use Rattle.image_replies.proofs.process.print_numbers.Goals as goal

pub returns : goal.returns
returns g c =
    prints_then (prints_as (ap (λ z. codes "pid " ++ signed_decimal z) (signed_as w32 _ _ c.pr_pid.ensures (search rules))) c.print_labelled.ensures)
    (prints_then (prints_as (ap (λ z. codes " ppid " ++ signed_decimal z) (signed_as w32 _ _ c.pr_ppid.ensures (search rules))) c.print_labelled-2.ensures)
    (prints_then (prints_as (ap (λ z. codes " pgrp " ++ signed_decimal z) (signed_as w32 _ _ c.pr_pgrp.ensures (search rules))) c.print_labelled-3.ensures)
    (prints_then (prints_as (ap (λ z. codes " sid " ++ signed_decimal z) (signed_as w32 _ _ c.pr_sid.ensures (search rules))) c.print_labelled-4.ensures) c.print.ensures)))
