use Rattle.std.proofs.Common.{rules, ap}
use Rattle.std.proofs.Common.{w32}
use Rattle.image_replies.proofs.TextLemmas.{signed_as}
use Rattle.std.specs.Prelude.{◌++◌, codes}
use Rattle.std.specs.Fmt.{signed_decimal}
use Rattle.thread_regs.specs.SignalNames.{name_of_signal}
use Rattle.image_replies.specs.Signal.{name_or_dash}
use Rattle.script_streams.specs.PrintLaws.{prints_then, prints_as}
use Rattle.image_replies.proofs.signal.print_cause.Goals as goal

pub returns : goal.returns
returns g c =
    prints_then (prints_as (ap (λ z. codes "signo " ++ signed_decimal z) (signed_as w32 _ _ c.si_signo.ensures (search rules))) c.print_labelled.ensures)
    (prints_then c.print.ensures
    (prints_then (prints_as (ap (λ z. name_or_dash (name_of_signal z)) (signed_as w32 _ _ c.si_signo-2.ensures (search rules))) c.print_signal_name.ensures)
    (prints_then (prints_as (ap (λ z. codes " errno " ++ signed_decimal z) (signed_as w32 _ _ c.si_errno.ensures (search rules))) c.print_labelled-2.ensures)
    (prints_then (prints_as (ap (λ z. codes " code " ++ signed_decimal z) (signed_as w32 _ _ c.si_code.ensures (search rules))) c.print_labelled-3.ensures) c.print-2.ensures))))
