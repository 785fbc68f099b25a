use Rattle.std.proofs.Common.{map, sym, ap, subst, ◌∙◌}
use Rattle.core_notes.specs.FileWords.{file_view}
use Rattle.address_space.specs.Disjoint.{file_extent}
use Rattle.address_space.specs.Layers.{IsNumbered, holder}
use Rattle.address_space.proofs.Sheets.{files_fit, rows_number, rows_numbered}
use Rattle.address_space.proofs.file_sheet.FileSheet.of.Goals as goal

pub layered-requires : goal.layered-requires
layered-requires c =
    let files = map file_view c.in_ok-maps.maps.items in
    subst (IsNumbered 0) (sym c.deref.ensures.value) (rows_numbered (map file_extent files) c.in_ok-maps.rows.items (files_fit c.in_ok-maps.maps.items c.in_ok-maps.ensures.fits) c.in_ok-maps.ensures.rows)

pub invariant_of-result-clause-first : goal.invariant_of-result-clause-first
invariant_of-result-clause-first c a =
    let files = map file_view c.in_ok-maps.maps.items in
    c.in_ok-table.ensures.same a ∙ ap (λ rows. holder rows a) c.deref.ensures.value ∙ rows_number file_extent files c.in_ok-maps.rows.items c.in_ok-maps.ensures.rows a
