use Rattle.std.proofs.Common.{arith}
use Rattle.call_frames.proofs.Groups.{groups_room, groups_whole}
use Rattle.call_frames.proofs.leb.groups.Goals as goal

pub overflow_mul-value : goal.overflow_mul-value
overflow_mul-value c =
    let room = groups_room c.args.text.now c.loop-left.left (omega arith) (omega arith) c.requires in omega arith

pub overflow_add-value : goal.overflow_add-value
overflow_add-value c =
    let room = groups_room c.args.text.now c.loop-left.left (omega arith) (omega arith) c.requires in omega (arith, c.from.ensures)

pub returns-clause-small : goal.returns-clause-small
returns-clause-small c =
    let small = groups_whole c.args.text.now c.loop-left.left (omega arith) in omega arith
