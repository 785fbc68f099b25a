use Rattle.std.proofs.Common.{◌<◌, length, sym, ◌∙◌, arith}
use Rattle.std.proofs.lemmas.List.{length-set}
use Rattle.address_space.specs.SpaceWords.{space_of}
use Rattle.address_space.proofs.Numbers.{stored}
use Rattle.address_space.proofs.space.AddressSpace.eight_values.Goals as goal

pub loop-i-preserved : goal.loop-i-preserved
loop-i-preserved c =
    let size = c.loop-i.invariant.size in
    let bound : c.loop-i.i < length c.loop-i.bytes = omega arith in
    record {
      size = length-set c.loop-i.bytes c.loop-i.i c.in_ok-bytes.field-0 ∙ size;
      values = stored (space_of c.args.self.now) c.args.address c.loop-i.i c.in_ok-bytes.field-0 c.in_ok-at.at c.loop-i.bytes bound c.loop-i.invariant.values c.in_ok-at.ensures.1 (sym c.value.ensures ∙ c.in_ok-bytes.was);
    }
