use Rattle.std.proofs.Common.{map, refl, sym, subst}
use Rattle.std.proofs.lemmas.Bool.{false≢true}
use Rattle.core_notes.specs.FileWords.{file_view}
use Rattle.address_space.specs.Disjoint.{AreFilesDisjoint, file_extent}
use Rattle.address_space.proofs.Extents.{items_apart, extents_apart}
use Rattle.address_space.proofs.file_table.FileTable.of.Goals as goal

-- there is a table: they are disjoint
pub returns-in-Some-clause-there : goal.returns-in-Some-clause-there
returns-in-Some-clause-there c =
    let files = map file_view c.in_ok-maps.maps.items in
    let there = c.in-Some.ensures.there (map file_extent files) c.in_ok-maps.ensures.rows in
    (λ some. subst AreFilesDisjoint c.in_ok-maps.ensures.maps (items_apart file_extent files (there.0 refl)), λ given. refl)

-- there is none: they are not
pub returns-clause-there : goal.returns-clause-there
returns-clause-there c =
    let files = map file_view c.in_ok-maps.maps.items in
    let there = c.in-None.ensures.there (map file_extent files) c.in_ok-maps.ensures.rows in
    (λ some. absurd (false≢true some), λ given. there.1 (extents_apart file_extent files (subst AreFilesDisjoint (sym c.in_ok-maps.ensures.maps) given)))
