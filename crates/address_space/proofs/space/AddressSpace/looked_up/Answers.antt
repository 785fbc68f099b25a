use Rattle.std.proofs.Common.{map, sym, ap, ◌∙◌}
use Rattle.std.specs.Option.{option_map}
use Rattle.elf_view.specs.Header.{segments_of}
use Rattle.elf_view.specs.ViewWords.{image_of}
use Rattle.address_space.specs.Source.{decider}
use Rattle.address_space.specs.Disjoint.{segment_extent}
use Rattle.address_space.specs.SpaceWords.{space_of}
use Rattle.address_space.specs.ScanWords.{decided_view, row_view}
use Rattle.address_space.proofs.Extents.{alike_items, item_found, none_found, has_start}
use Rattle.address_space.proofs.space.AddressSpace.looked_up.Goals as goal

pub returns-in-Some-clause-first : goal.returns-in-Some-clause-first
unfolding space_of decider
returns-in-Some-clause-first c =
    let segments = segments_of (image_of c.args.self.now.elf) in
    let found = c.find-row.ensures.first (map segment_extent segments) c.requires.whole in
    c.segment_at.ensures ∙ sym (item_found segment_extent segments c.args.at (row_view c.in-Some.row) (ap (option_map row_view) (sym c.in-Some.is) ∙ found))

pub returns-in-Some-clause-alike : goal.returns-in-Some-clause-alike
unfolding space_of decider
returns-in-Some-clause-alike c =
    let segments = segments_of (image_of c.args.self.now.elf) in
    alike_items segment_extent segments c.args.at c.args.limit c.find-row.result.1 (c.find-row.ensures.alike (map segment_extent segments) c.requires.whole)

pub returns-in-Some-clause-covers : goal.returns-in-Some-clause-covers
unfolding space_of decider
returns-in-Some-clause-covers c =
    has_start segment_extent decided_view (segments_of (image_of c.args.self.now.elf)) c.args.at c.segment_at.result (returns-in-Some-clause-first c)

pub returns-in-None-clause-first : goal.returns-in-None-clause-first
unfolding space_of decider
returns-in-None-clause-first c =
    let segments = segments_of (image_of c.args.self.now.elf) in
    let found = c.find-row.ensures.first (map segment_extent segments) c.requires.whole in
    sym (none_found segment_extent segments c.args.at (ap (option_map row_view) (sym c.in-None.is) ∙ found))

pub returns-in-None-clause-alike : goal.returns-in-None-clause-alike
unfolding space_of decider
returns-in-None-clause-alike c =
    let segments = segments_of (image_of c.args.self.now.elf) in
    alike_items segment_extent segments c.args.at c.args.limit c.find-row.result.1 (c.find-row.ensures.alike (map segment_extent segments) c.requires.whole)
