use Rattle.std.proofs.Common.{rules, ap, sym, refl, ◌∙◌, w32, w64, Some}
use Rattle.std.specs.Prelude.{decimal}
use Rattle.std.specs.Fmt.{signed_decimal}
use Rattle.script_streams.specs.PrintLaws.{prints_then, prints_as}
use Rattle.case_screens.specs.Signal.{sender_text}
use Rattle.case_screens.proofs.TextLemmas.{signed_as}
use Rattle.case_screens.proofs.signal.print_sender.Goals as goal

pub returns : goal.returns
returns g c =
    let process = c.in-Some-Some.process in
    let user = c.in-Some-Some.user in
    let by_process = ap (λ p. sender_text p (Some user)) (sym c.in-Some-Some.is-0) in
    let by_user = ap (λ u. sender_text c.args.process u) (sym c.in-Some-Some.is-1) in
    prints_as (by_process ∙ by_user)
    (prints_then c.print.ensures
    (prints_then (prints_as (ap signed_decimal (signed_as w64 _ _ (c.from.ensures ∙ signed_as w32 _ _ refl (search rules)) (search rules))) c.print_signed.ensures)
    (prints_then c.print-2.ensures (prints_as (ap decimal c.from-2.ensures) c.print_decimal.ensures))))
