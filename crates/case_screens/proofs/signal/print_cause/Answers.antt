use Rattle.std.proofs.Common.{rules, ap, ◌∙◌, w32, to_z, of_z}
use Rattle.core_notes.specs.Descriptor.{si_signo}
use Rattle.core_notes.specs.DescriptorWords.{siginfo_bytes}
use Rattle.thread_regs.specs.SignalNames.{name_of_signal}
use Rattle.script_streams.specs.PrintLaws.{prints_then, prints_as}
use Rattle.case_screens.specs.Codes.{code_of_signal}
use Rattle.case_screens.specs.Signal.{code_text, signal_word}
use Rattle.case_screens.proofs.TextLemmas.{signed_as}
use Rattle.case_screens.proofs.signal.print_cause.Goals as goal

pub returns : goal.returns
returns g c =
    let d = siginfo_bytes c.args.met.now in
    let code = signed_as w32 _ _ c.si_code.ensures (search rules) in
    let signo = signed_as w32 _ _ c.si_signo-2.ensures (search rules) in
    let found = c.code_of_signal.ensures ∙ (ap (λ z. code_of_signal z (to_z w32 (of_z w32 c.si_code.result))) signo ∙ ap (code_of_signal (si_signo d)) code) in
    prints_then (prints_as (ap (λ z. signal_word (name_of_signal z) z) (signed_as w32 _ _ c.si_signo.ensures (search rules))) c.print_name.ensures)
    (prints_then c.print.ensures (prints_as (ap (λ o. code_text o d) found) c.print_code.ensures))
