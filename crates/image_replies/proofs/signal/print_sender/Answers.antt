use Rattle.std.proofs.Common.{rules, ap, sym, refl, ◌∙◌, w32, Some}
use Rattle.std.specs.Fmt.{signed_decimal}
use Rattle.std.specs.Prelude.{◌++◌, codes, decimal}
use Rattle.core_notes.specs.Descriptor.{si_pid}
use Rattle.core_notes.specs.DescriptorWords.{siginfo_bytes}
use Rattle.image_replies.specs.Signal.{sender_line}
use Rattle.script_streams.specs.PrintLaws.{prints_then, prints_as}
use Rattle.image_replies.proofs.TextLemmas.{signed_as}
use Rattle.image_replies.proofs.signal.print_sender.Goals as goal

pub returns : goal.returns
returns g c =
    let process = c.in-Some-Some.process in
    let user = c.in-Some-Some.user in
    let d = siginfo_bytes c.args.signal.now in
    let by_process = ap (λ p. sender_line p (Some user)) (sym c.in-Some-Some.is-0 ∙ c.si_pid.ensures) in
    let by_user = ap (λ u. sender_line (si_pid d) u) (sym c.in-Some-Some.is-1 ∙ c.si_uid.ensures) in
    prints_as (by_process ∙ by_user)
    (prints_then (prints_as (ap (λ z. codes "pid " ++ signed_decimal z) (signed_as w32 process process refl (search rules))) c.print_labelled.ensures)
    (prints_then c.print.ensures
    (prints_then (prints_as (ap decimal c.from.ensures) c.print_decimal.ensures) c.print-2.ensures)))
