use Rattle.std.proofs.Common.{sym, ap, ◌∙◌}
use Rattle.fair_share.specs.Owners.{is_last_part}
use Rattle.fair_share.proofs.OwnerLemmas.{part_later, rest_whole}
use Rattle.fair_share.proofs.owners.before_number.Goals as goal

pub loop-at-preserved : goal.loop-at-preserved
loop-at-preserved c =
    part_later c.args.name.now c.loop-at.at c.loop-at.invariant (ap is_last_part (sym (rest_whole c.args.name.now c.loop-at.at)) ∙ sym c.if-is_last_part.ensures)
