use Rattle.std.proofs.Common.{◌∷◌, length, ap, sym, ◌∙◌, arith}
use Rattle.std.proofs.lemmas.Result.{err_from_is_err_and}
use Rattle.line_tables.specs.RowWords.{rows_left}
use Rattle.line_tables.specs.Sequences.{row_in}
use Rattle.line_tables.proofs.Crossing.{with_found, found_end, found_fault, found_cut_fault, found_on, cut_fewer}
use Rattle.line_tables.proofs.header.Header.row_at.Goals as goal

pub returns-in_err-first : goal.returns-in_err-first
returns-in_err-first c =
    let p = err_from_is_err_and c.from_residual.result c.from_residual.ensures.1 in
    rw (p.1, p.2) (sym (c.loop-first.invariant ∙ found_fault c.args.address (rows_left c.loop-first.rows) _ c.loop-first.found _ (c.in-Some.ensures.steps ∙ ap (λ r. r ∷ rows_left c.next.new.self) c.in_err-first.was)))

pub returns-in_err-row : goal.returns-in_err-row
returns-in_err-row c =
    let p = err_from_is_err_and c.from_residual-in_err-row.result c.from_residual-in_err-row.ensures.1 in
    rw (p.1, p.2) (sym (c.loop-first.invariant ∙ found_cut_fault c.args.address c.in_ok-first.field-0 (rows_left c.loop-first.rows) (rows_left c.next.new.self) c.loop-first.found _ (c.in-Some.ensures.steps ∙ ap (λ r. r ∷ rows_left c.next.new.self) c.in_ok-first.was) c.in_err-row.ensures))

pub loop-first-smaller : goal.loop-first-smaller
loop-first-smaller c =
    let some = ap length c.in-Some.ensures.steps in
    let fewer = cut_fewer c.args.address c.in_ok-first.field-0 (rows_left c.next.new.self) _ c.in_ok-row.row c.in_ok-row.ensures in omega (arith, some, fewer)

pub loop-first-preserved : goal.loop-first-preserved
loop-first-preserved c =
    c.loop-first.invariant ∙ found_on c.args.address c.in_ok-first.field-0 (rows_left c.loop-first.rows) (rows_left c.next.new.self) _ c.loop-first.found c.in_ok-row.row (c.in-Some.ensures.steps ∙ ap (λ r. r ∷ rows_left c.next.new.self) c.in_ok-first.was) c.in_ok-row.ensures
    ∙ ap (λ o. with_found o (row_in c.args.address (rows_left c.rest_of_sequence.new.rows))) (sym c.or-found.ensures)

pub returns : goal.returns
returns c =
    sym (c.loop-first.invariant ∙ found_end c.args.address (rows_left c.loop-first.rows) c.loop-first.found c.in_default.ensures.steps.0)
