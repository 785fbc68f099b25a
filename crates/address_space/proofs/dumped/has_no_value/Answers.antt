use Rattle.std.proofs.Common.{◌-◌, arith}
use Rattle.std.proofs.lemmas.Bool.{ltb-true}
use Rattle.elf_view.specs.ViewWords.{image_of}
use Rattle.address_space.specs.ScanWords.{decided_view}
use Rattle.address_space.proofs.Dumping.{cut_value, no_value}
use Rattle.address_space.proofs.Filled.{front_headed}
use Rattle.address_space.proofs.Places.{none_view, some_view}
use Rattle.address_space.proofs.dumped.has_no_value.Goals as goal

pub returns-in_default : goal.returns-in_default
returns-in_default c says b front space is =
    let elf = c.args.elf.now in
    no_value (image_of elf) b (front_headed (image_of elf) b front.1 elf.whole c.a_sound_front_is_enough.ensures.segments) space is c.args.address
    (none_view decided_view c.first_segment.result.0 _ c.in_default.is (rw c.segments.ensures.headers at c.first_segment.ensures.first))

pub returns-then-held-place : goal.returns-then-held-place
returns-then-held-place c says b front space is =
    let elf = c.args.elf.now in
    let d = c.in-Some.decided in
    let found = some_view decided_view c.first_segment.result.0 d _ c.in-Some.is (rw c.segments.ensures.headers at c.first_segment.ensures.first) in
    cut_value (image_of elf) b (front_headed (image_of elf) b front.1 elf.whole c.a_sound_front_is_enough.ensures.segments) space is c.args.address c.args.size (decided_view d) front.0 found
    (omega (arith, c.held.ensures, c.if-held-place.true)) (ltb-true (c.args.address - d.segment.vaddr) d.segment.filesz says)
