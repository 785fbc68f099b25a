use Rattle.std.proofs.Common.{[], ◌∷◌, sym}
use Rattle.case_listing.proofs.PlainLemmas.{plain_escaped}
use Rattle.case_listing.proofs.plain_text.print_front.Goals as goal

pub returns-in-Some-clause-states : goal.returns-in-Some-clause-states
returns-in-Some-clause-states g c = (c.in-Some.byte ∷ [], c.print.ensures, plain_escaped c.args.text.now c.in-Some.byte (sym c.in-Some.ensures.byte))
