use Rattle.std.proofs.Common.{◌-◌, arith}
use Rattle.elf_view.specs.ViewWords.{image_of}
use Rattle.address_space.specs.ScanWords.{decided_view}
use Rattle.address_space.proofs.Dumping.{values_are}
use Rattle.address_space.proofs.Filled.{front_headed}
use Rattle.address_space.proofs.Places.{some_view}
use Rattle.address_space.proofs.dumped.dumped_range.Goals as goal

pub returns-clause-values : goal.returns-clause-values
returns-clause-values c b front space is k h =
    let elf = c.args.elf.now in
    let d = c.in_ok-segment.field-0 in
    let s = d.segment in
    let found = some_view decided_view c.first_segment-length.result.0 d _ c.in_ok-segment.was (rw c.segments.ensures.headers at c.first_segment-length.ensures.first) in
    values_are (image_of elf) b (front_headed (image_of elf) b front.1 elf.whole c.a_sound_front_is_enough.ensures.segments) space is c.args.first c.args.limit c.first_segment-length.result.1 c.min.result c.args.size (decided_view d) front.0
    (rw c.segments.ensures.headers at c.first_segment-length.ensures.alike) found (rw c.in_ok-segment.was at c.first_segment-length.ensures.covers) (omega (arith, c.min.ensures)) (omega (arith, c.min.ensures, c.held-held.ensures)) k (omega (arith, h))
