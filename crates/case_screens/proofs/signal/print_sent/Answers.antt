use Rattle.std.proofs.Common.{rules, ℕ, List, Option, ◌++◌, ap, sym, refl, ◌∙◌, w32, w64}
use Rattle.std.specs.Borrow.{Bor}
use Rattle.std.specs.Fmt.{signed_decimal}
use Rattle.std.specs.Option.{option_map}
use Rattle.std.specs.Prelude.{codes}
use Rattle.script_streams.specs.PrintLaws.{prints_as, prints_then}
use Rattle.case_screens.specs.Codes.{sent_code}
use Rattle.case_screens.specs.Signal.{sent_word}
use Rattle.case_screens.proofs.TextLemmas.{signed_as}
use Rattle.case_screens.proofs.signal.print_sent.Goals as goal

pub returns-in-Some : goal.returns-in-Some
returns-in-Some g c =
    let code = c.args.code in
    let same = signed_as w32 code code refl (search rules) in
    prints_as
    (ap (λ (o : Option (Bor (List ℕ))). sent_word (option_map (λ (n : Bor (List ℕ)). n.now) o) code) (sym c.in-Some.is) ∙ ap (λ o. sent_word o code) c.sent_code.ensures
    ∙ ap (λ z. sent_word (sent_code z) code) same)
    c.print.ensures

pub returns-in-None : goal.returns-in-None
returns-in-None g c =
    let code = c.args.code in
    let same = signed_as w32 code code refl (search rules) in
    prints_as
    (ap (λ z. codes "code " ++ signed_decimal z) (signed_as w64 _ _ (c.from.ensures ∙ same) (search rules))
    ∙ ap (λ (o : Option (Bor (List ℕ))). sent_word (option_map (λ (n : Bor (List ℕ)). n.now) o) code) (sym c.in-None.is) ∙ ap (λ o. sent_word o code) c.sent_code.ensures
    ∙ ap (λ z. sent_word (sent_code z) code) same)
    (prints_then c.print-in-None.ensures c.print_signed.ensures)
