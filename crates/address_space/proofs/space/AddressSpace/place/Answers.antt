use Rattle.std.proofs.Common.{◌≡◌, Some, None, ap, ◌∙◌, arith}
use Rattle.elf_view.specs.Field.{part}
use Rattle.elf_view.specs.ViewWords.{image_of}
use Rattle.address_space.specs.Source.{decider, content_by}
use Rattle.address_space.specs.SpaceWords.{space_of}
use Rattle.address_space.specs.Ranges.{place_number}
use Rattle.address_space.specs.ScanWords.{decided_view}
use Rattle.address_space.proofs.Places.{some_view, none_view}
use Rattle.address_space.proofs.Filled.{nowhere_in, nowhere_here, decided_stretch, decided_here, decided_number, front_headed, own_segments, stands_within}
use Rattle.address_space.proofs.space.AddressSpace.place.Goals as goal
use Rattle.address_space.proofs.space.AddressSpace.place.Goals.{In_default, After-kind-1}

none : (c : In_default) → decider (space_of c.args.self.now) c.args.at ≡ None
none c = none_view decided_view c.decide-length.result.0 (decider (space_of c.args.self.now) c.args.at) c.in_default.is c.decide-length.ensures.first

some : (c : After-kind-1) → decider (space_of c.args.self.now) c.args.at ≡ Some (decided_view c.in-Some.decided)
some c = some_view decided_view c.decide-length.result.0 c.in-Some.decided (decider (space_of c.args.self.now) c.args.at) c.in-Some.is c.decide-length.ensures.first

pub returns-in_default-clause-stretch : goal.returns-in_default-clause-stretch
returns-in_default-clause-stretch c b front =
    let elf = c.args.self.now.elf in
    nowhere_in (image_of elf) b (front_headed (image_of elf) b front.1 elf.whole c.a_sound_front_is_enough.ensures.segments) (space_of c.args.self.now) (own_segments c.args.self.now) c.args.at c.args.limit c.decide-length.result.1 c.decide-length.ensures.alike (none c)

pub returns-in_default-clause-number : goal.returns-in_default-clause-number
returns-in_default-clause-number c b front =
    let elf = c.args.self.now.elf in
    ap place_number (nowhere_here (image_of elf) b (front_headed (image_of elf) b front.1 elf.whole c.a_sound_front_is_enough.ensures.segments) (space_of c.args.self.now) (own_segments c.args.self.now) c.args.at c.args.limit c.decide-length.result.1 c.decide-length.ensures.alike (none c))

pub returns-in_default-clause-content : goal.returns-in_default-clause-content
returns-in_default-clause-content c b front =
    let elf = c.args.self.now.elf in
    ap (content_by (λ bytes k. part bytes k c.decide-length.result.1) c.args.at)
    (nowhere_here (image_of elf) b (front_headed (image_of elf) b front.1 elf.whole c.a_sound_front_is_enough.ensures.segments) (space_of c.args.self.now) (own_segments c.args.self.now) c.args.at c.args.limit c.decide-length.result.1 c.decide-length.ensures.alike (none c))

pub returns-clause-stretch : goal.returns-clause-stretch
returns-clause-stretch c b front =
    let elf = c.args.self.now.elf in
    decided_stretch (image_of elf) b (front_headed (image_of elf) b front.1 elf.whole c.a_sound_front_is_enough.ensures.segments) (space_of c.args.self.now) (own_segments c.args.self.now) c.args.at c.args.limit c.decide-length.result.1 c.decide-length.ensures.alike
    (decided_view c.in-Some.decided) (some c) c.locate_within-length.result.1 (c.locate_within-length.ensures.stretch b c.in-Some.decided.number front.0)

pub returns-clause-number : goal.returns-clause-number
returns-clause-number c b front =
    let elf = c.args.self.now.elf in
    decided_number (image_of elf) b (front_headed (image_of elf) b front.1 elf.whole c.a_sound_front_is_enough.ensures.segments) (space_of c.args.self.now) (own_segments c.args.self.now) c.args.at c.args.limit c.decide-length.result.1 c.decide-length.ensures.alike
    (decided_view c.in-Some.decided) (some c)

pub returns-clause-content : goal.returns-clause-content
returns-clause-content c b front =
    let elf = c.args.self.now.elf in
    ap (content_by (λ bytes k. part bytes k c.locate_within-length.result.1) c.args.at)
    (decided_here (image_of elf) b (front_headed (image_of elf) b front.1 elf.whole c.a_sound_front_is_enough.ensures.segments) (space_of c.args.self.now) (own_segments c.args.self.now) c.args.at c.args.limit c.decide-length.result.1 c.decide-length.ensures.alike
    (decided_view c.in-Some.decided) (some c))
    ∙ c.locate_within-length.ensures.content b c.in-Some.decided.number front.0

pub returns-clause-count : goal.returns-clause-count
returns-clause-count c = let within = c.decide-length.ensures.alike.within in let count = c.locate_within-length.ensures.count in (count.0, omega (arith, within, count.1))

pub returns-clause-held : goal.returns-clause-held
unfolding space_of
returns-clause-held c start past all =
    let count = c.locate_within-length.ensures.count in
    stands_within (space_of c.args.self.now) c.args.size c.args.at c.args.limit c.decide-length.result.1 c.locate_within-length.result.1 start past all c.decide-length.ensures.alike (decided_view c.in-Some.decided) (some c) count.0 count.1
    c.locate_within-length.result.0 c.locate_within-length.ensures.from
