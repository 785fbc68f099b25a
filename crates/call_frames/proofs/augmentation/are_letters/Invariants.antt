use Rattle.std.proofs.Common.{◌≡◌, drop}
use Rattle.call_frames.specs.Augmentation as spec
use Rattle.call_frames.proofs.augmentation.are_letters.Given as goal

-- those that were asked are letters, and each is there once
abbrev pub invariant-loop-i : goal.invariant-loop-i
invariant-loop-i l = spec.are_letters l.letters ≡ spec.are_letters (drop l.i l.letters)
