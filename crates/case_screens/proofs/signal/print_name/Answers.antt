use Rattle.std.proofs.Common.{rules, ap, sym, refl, ◌∙◌, w32, w64}
use Rattle.std.specs.Fmt.{signed_decimal}
use Rattle.std.specs.Option.{option_copied}
use Rattle.thread_regs.specs.SignalNames.{name_of_signal}
use Rattle.script_streams.specs.PrintLaws.{prints_as, prints_then}
use Rattle.case_screens.specs.Signal.{signal_word}
use Rattle.case_screens.proofs.TextLemmas.{signed_as}
use Rattle.case_screens.proofs.signal.print_name.Goals as goal

pub returns-in-Some : goal.returns-in-Some
returns-in-Some g c =
    let signo = c.args.signo in
    let same = signed_as w32 signo signo refl (search rules) in
    prints_as
    (ap (λ o. signal_word (option_copied o) signo) (sym c.in-Some.is) ∙ ap (λ o. signal_word o signo) c.signal_name.ensures
    ∙ ap (λ z. signal_word (name_of_signal z) signo) same)
    (prints_then c.print.ensures (prints_as c.as_bytes.ensures.value c.print-in-Some.ensures))

pub returns-in-None : goal.returns-in-None
returns-in-None g c =
    let signo = c.args.signo in
    let same = signed_as w32 signo signo refl (search rules) in
    prints_as
    (ap signed_decimal (signed_as w64 _ _ (c.from.ensures ∙ same) (search rules))
    ∙ ap (λ o. signal_word (option_copied o) signo) (sym c.in-None.is) ∙ ap (λ o. signal_word o signo) c.signal_name.ensures
    ∙ ap (λ z. signal_word (name_of_signal z) signo) same)
    c.print_signed.ensures
