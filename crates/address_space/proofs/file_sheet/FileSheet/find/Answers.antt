use Rattle.std.proofs.Common.{ℕ, map, sym, ap, ◌∙◌}
use Rattle.std.specs.Option.{option_map}
use Rattle.core_notes.specs.FileList.{FileView}
use Rattle.core_notes.specs.FileWords.{file_view}
use Rattle.address_space.specs.Disjoint.{file_extent}
use Rattle.address_space.specs.Layers.{holder}
use Rattle.address_space.specs.declared.row.Row.{Row}
use Rattle.address_space.proofs.Extents.{items_of, has_extent}
use Rattle.address_space.proofs.Sheets.{alike_numbers, number_found, number_none}
use Rattle.address_space.proofs.file_sheet.FileSheet.find.Goals as goal

pub returns-in-Some-clause-first : goal.returns-in-Some-clause-first
returns-in-Some-clause-first c =
    let files = map file_view c.args.self.now.maps.items in
    let found = ap (option_map (λ (row : Row). row.number)) (sym c.in-Some.is) ∙ c.find-row.ensures.number c.args.self.now.laid ∙ c.args.self.now.first c.args.at in
    c.map_at.ensures ∙ sym (ap (option_map (λ (e : ℕ × FileView). e.1)) (number_found file_extent files c.args.at c.in-Some.row.number found) ∙ items_of c.in-Some.row.number _)

pub returns-in-Some-clause-alike : goal.returns-in-Some-clause-alike
returns-in-Some-clause-alike c =
    let files = map file_view c.args.self.now.maps.items in
    alike_numbers file_extent files (holder c.args.self.now.table.rows.items) c.args.at c.args.limit c.find-row.result.1 c.args.self.now.first (c.find-row.ensures.held c.args.self.now.laid)

pub returns-in-Some-clause-maps : goal.returns-in-Some-clause-maps
returns-in-Some-clause-maps c =
    let files = map file_view c.args.self.now.maps.items in
    has_extent file_extent file_view files c.args.at c.map_at.result (returns-in-Some-clause-first c)

pub returns-in-None-clause-first : goal.returns-in-None-clause-first
returns-in-None-clause-first c =
    let files = map file_view c.args.self.now.maps.items in
    let found = ap (option_map (λ (row : Row). row.number)) (sym c.in-None.is) ∙ c.find-row.ensures.number c.args.self.now.laid ∙ c.args.self.now.first c.args.at in
    sym (ap (option_map (λ (e : ℕ × FileView). e.1)) (number_none file_extent files c.args.at found))

pub returns-in-None-clause-alike : goal.returns-in-None-clause-alike
returns-in-None-clause-alike c =
    let files = map file_view c.args.self.now.maps.items in
    alike_numbers file_extent files (holder c.args.self.now.table.rows.items) c.args.at c.args.limit c.find-row.result.1 c.args.self.now.first (c.find-row.ensures.held c.args.self.now.laid)
