use Rattle.std.proofs.Common.{IfOk, List, ℕ, subst, sym}
use Rattle.core_handler.specs.Requesting.{AsksBy}
use Rattle.core_handler.proofs.NamingLemmas.{plain_named}
use Rattle.core_handler.proofs.handling.Handler.request.Goals as goal

-- The name was refused, so it is the plain template that names the core.
pub returns-clause-asked : goal.returns-clause-asked
returns-clause-asked g c =
    let config = c.args.self.now.config in
    let begin = c.args.words.now.begin.items in
    let length = c.args.words.now.length in
    let gives = g.R.TimeSource.gives c.args.rt.now in
    let plain = plain_named gives config begin length c.template.result.now c.in_ok-request.request c.in-Some.reason.now c.template.ensures.taken c.in_ok-request.ensures.asked c.in-Some.ensures in
    let P : List ℕ → Type 0 = λ template. IfOk c.named-2.result (λ request. AsksBy gives config begin length template request) in
    subst P (sym plain) c.named-2.ensures.asked
