use Rattle.std.proofs.Common.{◌≡◌, None}
use Rattle.std.specs.List.{AllWithin}
use Rattle.intake.specs.declared.slots.Slot.{Slot}
use Rattle.intake.specs.StreamView.{parts_in}
use Rattle.intake.proofs.slots.close_each.Given as goal

abbrev pub invariant-loop-place : goal.invariant-loop-place
invariant-loop-place l = AllWithin (λ (s : Slot). parts_in s ≡ None) l.slots 0 l.place
