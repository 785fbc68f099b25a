use Rattle.std.proofs.Common.{◌≡◌, ◌≤◌, ◌-◌, map, replicate, None, vec_len}
use Rattle.intake.specs.StreamView.{parts_in}
use Rattle.intake.proofs.slots.Slots.new.Given as goal

abbrev pub invariant-loop-alloc : goal.invariant-loop-alloc
invariant-loop-alloc l = record { most : vec_len l.slots ≤ 8; none : map parts_in l.slots.items ≡ replicate (vec_len l.slots) None }

abbrev pub decreases-loop-alloc : goal.decreases-loop-alloc
decreases-loop-alloc l = 8 - vec_len l.slots
