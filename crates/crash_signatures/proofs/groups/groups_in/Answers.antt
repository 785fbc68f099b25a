use Rattle.std.proofs.Common.{map}
use Rattle.crash_signatures.specs.Grouping.{group_said}
use Rattle.crash_signatures.proofs.GroupLemmas.{known_group, new_group}
use Rattle.crash_signatures.proofs.groups.groups_in.Goals as goal

pub loop-at-preserved-then-has_group : goal.loop-at-preserved-then-has_group
loop-at-preserved-then-has_group c =
    known_group c.args.members.now c.loop-at.at c.group_at-signature.result c.loop-at-test.true c.group_at-signature.ensures (map group_said c.loop-at.groups.items) c.has_group.result
    c.has_group.ensures c.if-has_group.true c.loop-at.invariant

pub loop-at-preserved : goal.loop-at-preserved
loop-at-preserved c =
    new_group c.args.members.now c.loop-at.at c.group_at-signature.result c.loop-at-test.true c.group_at-signature.ensures c.loop-at.groups.items c.push.new.self.items c.in_ok-group_with.field-0
    c.has_group.result c.has_group.ensures c.if-has_group.false c.loop-at.invariant c.in_ok-group_with.ensures c.in_ok-push.ensures.items
