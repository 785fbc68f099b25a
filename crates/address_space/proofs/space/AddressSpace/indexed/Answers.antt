use Rattle.std.proofs.Common.{map, sym, subst}
use Rattle.elf_view.specs.SegmentWords.{segments_left}
use Rattle.address_space.specs.Disjoint.{AreDisjoint, segment_extent}
use Rattle.address_space.proofs.Extents.{items_apart, extents_apart}
use Rattle.address_space.proofs.space.AddressSpace.indexed.Goals as goal

-- there is a table where the segments are disjoint
pub returns-clause-table : goal.returns-clause-table
returns-clause-table c =
    let segments = segments_left c.segments.result in
    let headers = c.segments.ensures.headers in
    let there = c.of-table.ensures.there (map segment_extent segments) c.in_ok-rows.ensures in
    (λ some. subst AreDisjoint headers (items_apart segment_extent segments (there.0 some)), λ given. there.1 (extents_apart segment_extent segments (subst AreDisjoint (sym headers) given)))
