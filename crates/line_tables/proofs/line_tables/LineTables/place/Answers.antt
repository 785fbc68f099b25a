use Rattle.std.proofs.Common.{Ok, Some, None, ap, sym, ◌∙◌}
use Rattle.std.proofs.lemmas.Result.{err_from_is_err_and}
use Rattle.line_tables.specs.FindingWords.{tables_view}
use Rattle.line_tables.specs.HeaderWords.{header_view}
use Rattle.line_tables.specs.UnitWords.{unit_view}
use Rattle.line_tables.proofs.Places.{place_missing, place_found}
use Rattle.line_tables.proofs.line_tables.LineTables.place.Goals as goal

pub returns-in_err-header : goal.returns-in_err-header
returns-in_err-header c =
    let p = err_from_is_err_and c.from_residual.result c.from_residual.ensures.1 in
    rw (p.1, p.2) (place_missing (tables_view c.args.self.now) c.args.address (unit_view c.args.unit.now) _ c.in_err-header.ensures)

pub returns-in_err-row : goal.returns-in_err-row
returns-in_err-row c =
    let p = err_from_is_err_and c.from_residual-in_err-row.result c.from_residual-in_err-row.ensures.1 in
    rw (p.1, p.2) (place_found (tables_view c.args.self.now) c.args.address (unit_view c.args.unit.now) (header_view c.in_ok-header.header) _ c.in_ok-header.ensures c.in_err-row.ensures)

pub returns-in-Some : goal.returns-in-Some
returns-in-Some c =
    place_found (tables_view c.args.self.now) c.args.address (unit_view c.args.unit.now) (header_view c.in_ok-header.header) (Ok (Some c.in-Some.row)) c.in_ok-header.ensures (sym (ap (λ o. Ok o) c.in-Some.is) ∙ c.in_ok-row.ensures)

pub returns-in-None : goal.returns-in-None
returns-in-None c =
    place_found (tables_view c.args.self.now) c.args.address (unit_view c.args.unit.now) (header_view c.in_ok-header.header) (Ok None) c.in_ok-header.ensures (sym (ap (λ o. Ok o) c.in-None.is) ∙ c.in_ok-row.ensures)
