use Rattle.std.proofs.Common.{rules, ap, sym, ◌∙◌, option_map, w32}
use Rattle.core_notes.specs.Descriptor.{si_pid}
use Rattle.core_notes.specs.DescriptorWords.{siginfo_bytes}
use Rattle.script_streams.specs.PrintLaws.{prints_then, prints_as}
use Rattle.case_screens.specs.CodeWords.{code_words}
use Rattle.case_screens.specs.Codes.{sent_code}
use Rattle.case_screens.specs.Signal.{code_text, met_text, sender_text, sent_word}
use Rattle.case_screens.proofs.TextLemmas.{signed_as}
use Rattle.case_screens.proofs.signal.print_code.Goals as goal

pub returns-in-None : goal.returns-in-None
returns-in-None g c =
    let d = siginfo_bytes c.args.met.now in
    prints_as (ap (λ o. code_text (option_map code_words o) d) (sym c.in-None.is))
    (prints_then (prints_as (ap (λ z. sent_word (sent_code z) z) (signed_as w32 _ _ c.si_code.ensures (search rules))) c.print_sent.ensures)
    (prints_then (prints_as (ap (λ p. sender_text p c.si_uid.result) c.si_pid.ensures ∙ ap (sender_text (si_pid d)) c.si_uid.ensures) c.print_sender.ensures)
    (prints_as (ap met_text c.si_addr-in-None.ensures) c.print_met.ensures)))
