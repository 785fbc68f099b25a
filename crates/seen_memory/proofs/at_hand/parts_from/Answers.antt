use Rattle.std.proofs.Common.{arith}
use Rattle.seen_memory.proofs.PartLemmas.{beside_then, has_here, has_rest}
use Rattle.seen_memory.proofs.at_hand.parts_from.Goals as goal

pub returns-in-Some : goal.returns-in-Some
returns-in-Some c =
    let found = c.in-Some.ensures in
    (found.0, found.1, λ image all. found.2 image (has_here image c.args.parts.now c.loop-part.part-index _ (omega arith) (c.loop-part.invariant.has image all)))

pub loop-part-preserved : goal.loop-part-preserved
loop-part-preserved c = record {
  beside = beside_then c.args.place c.args.parts.now c.loop-part.part-index _ (omega arith) c.in_default.ensures c.loop-part.invariant.beside;
  has = λ image all. has_rest image c.args.parts.now c.loop-part.part-index (c.loop-part.invariant.has image all);
}
