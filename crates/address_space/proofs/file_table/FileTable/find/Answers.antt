use Rattle.std.proofs.Common.{ℕ, map, sym, ap, ◌∙◌}
use Rattle.std.specs.Option.{option_map}
use Rattle.core_notes.specs.FileList.{FileView}
use Rattle.core_notes.specs.FileWords.{file_view}
use Rattle.address_space.specs.Disjoint.{file_extent}
use Rattle.address_space.specs.ScanWords.{row_view}
use Rattle.address_space.proofs.Extents.{alike_items, item_found, none_found, items_of, has_extent}
use Rattle.address_space.proofs.file_table.FileTable.find.Goals as goal

pub returns-in-Some-clause-first : goal.returns-in-Some-clause-first
returns-in-Some-clause-first c =
    let files = map file_view c.args.self.now.maps.items in
    let found = c.find-row.ensures.first (map file_extent files) c.args.self.now.whole in
    c.map_at.ensures ∙ sym (ap (option_map (λ (e : ℕ × FileView). e.1)) (item_found file_extent files c.args.at (row_view c.in-Some.row) (ap (option_map row_view) (sym c.in-Some.is) ∙ found)) ∙ items_of c.in-Some.row.number _)

pub returns-in-Some-clause-alike : goal.returns-in-Some-clause-alike
returns-in-Some-clause-alike c =
    let files = map file_view c.args.self.now.maps.items in
    alike_items file_extent files c.args.at c.args.limit c.find-row.result.1 (c.find-row.ensures.alike (map file_extent files) c.args.self.now.whole)

pub returns-in-Some-clause-maps : goal.returns-in-Some-clause-maps
returns-in-Some-clause-maps c =
    let files = map file_view c.args.self.now.maps.items in
    has_extent file_extent file_view files c.args.at c.map_at.result (returns-in-Some-clause-first c)

pub returns-in-None-clause-first : goal.returns-in-None-clause-first
returns-in-None-clause-first c =
    let files = map file_view c.args.self.now.maps.items in
    let found = c.find-row.ensures.first (map file_extent files) c.args.self.now.whole in
    sym (ap (option_map (λ (e : ℕ × FileView). e.1)) (none_found file_extent files c.args.at (ap (option_map row_view) (sym c.in-None.is) ∙ found)))

pub returns-in-None-clause-alike : goal.returns-in-None-clause-alike
returns-in-None-clause-alike c =
    let files = map file_view c.args.self.now.maps.items in
    alike_items file_extent files c.args.at c.args.limit c.find-row.result.1 (c.find-row.ensures.alike (map file_extent files) c.args.self.now.whole)
