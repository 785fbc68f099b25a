use Rattle.std.proofs.Common.{sym, ◌∙◌}
use Rattle.crash_signatures.proofs.NameLemmas.{added_then}
use Rattle.crash_signatures.proofs.names.+are_added.Goals as goal

pub returns-then-is_added : goal.returns-then-is_added
returns-then-is_added t c =
    added_then c.args.parts.now c.in-Some.at c.are_added.result c.in-Some.ensures.value (sym c.is_added.ensures ∙ c.if-is_added.true) c.are_added.ensures
