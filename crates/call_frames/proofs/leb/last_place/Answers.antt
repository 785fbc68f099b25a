use Rattle.std.proofs.Common.{arith}
use Rattle.std.proofs.lemmas.Bool.{lt-ltb}
use Rattle.call_frames.proofs.Groups.{last_found, last_missing}
use Rattle.call_frames.proofs.leb.last_place.Goals as goal

pub returns-then-byte-lt128 : goal.returns-then-byte-lt128
returns-then-byte-lt128 c =
    last_found c.args.bytes.now c.loop-i.i (omega arith) c.loop-i.invariant (lt-ltb _ 128 c.if-byte-lt128.true)

pub returns : goal.returns
returns c = last_missing c.args.bytes.now (λ k lt. c.loop-i.invariant k (omega arith))
