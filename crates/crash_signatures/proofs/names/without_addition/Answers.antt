use Rattle.std.proofs.Common.{sym, ap, ◌∙◌}
use Rattle.crash_signatures.specs.Names.{is_addition}
use Rattle.crash_signatures.proofs.NameLemmas.{added_later, rest_whole}
use Rattle.crash_signatures.proofs.names.without_addition.Goals as goal

pub loop-at-preserved : goal.loop-at-preserved
loop-at-preserved c =
    added_later c.args.name.now c.loop-at.at c.loop-at.invariant (ap is_addition (sym (rest_whole c.args.name.now c.loop-at.at)) ∙ sym c.if-is_addition.ensures)
