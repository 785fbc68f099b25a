use Rattle.std.proofs.Common.{◌≡◌, drop}
use Rattle.call_frames.specs.Augmentation as spec
use Rattle.call_frames.proofs.augmentation.encoding_among.Given as goal

-- the encoding of all is that of those that are left
abbrev pub invariant-loop-letter : goal.invariant-loop-letter
invariant-loop-letter l =
    spec.encoding_among 0 l.letters l.bytes ≡ spec.encoding_among l.encoding (drop l.letter-index l.letters) l.rest
