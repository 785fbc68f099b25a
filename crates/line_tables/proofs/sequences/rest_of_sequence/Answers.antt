use Rattle.std.proofs.Common.{◌∷◌, Ok, None, cond, ap, sym, ◌∙◌}
use Rattle.std.proofs.lemmas.Result.{err_from_is_err_and}
use Rattle.line_tables.specs.RowWords.{rows_left}
use Rattle.line_tables.proofs.Cuts.{going, ended, read_on, read_stop, read_short, read_whole}
use Rattle.line_tables.proofs.sequences.rest_of_sequence.Goals as goal

pub returns-in_default : goal.returns-in_default
returns-in_default c =
    sym (read_short c.args.address _ (rows_left c.loop-last.rows) c.loop-last.found c.loop-last.last c.loop-last.invariant (going _ c.loop-last-test.true) c.in_default.ensures.steps.0)

pub returns-in_err-row : goal.returns-in_err-row
returns-in_err-row c =
    let p = err_from_is_err_and c.from_residual.result c.from_residual.ensures.1 in
    rw (p.1, p.2) (sym (read_stop c.args.address _ (rows_left c.loop-last.rows) _ c.loop-last.found c.loop-last.last _ c.loop-last.invariant (going _ c.loop-last-test.true) (c.in-Some.ensures.steps ∙ ap (λ r. r ∷ rows_left c.next.new.self) c.in_err-row.was)))

pub loop-last-preserved : goal.loop-last-preserved
loop-last-preserved c =
    read_on c.args.address _ (rows_left c.loop-last.rows) _ c.loop-last.found _ c.loop-last.last c.in_ok-row.row c.loop-last.invariant (c.in-Some.ensures.steps ∙ ap (λ r. r ∷ rows_left c.next.new.self) c.in_ok-row.was) (going _ c.loop-last-test.true) c.crossed-found.ensures

pub returns-then-spans : goal.returns-then-spans
returns-then-spans c =
    sym (read_whole c.args.address c.args.first c.loop-last.last _ (rows_left c.loop-last.rows) c.loop-last.found c.loop-last.invariant (ended _ c.loop-last-test.false) ∙ ap (λ t. Ok (cond t c.loop-last.found None, rows_left c.loop-last.rows)) (sym c.if-spans.ensures))

pub returns-else-spans : goal.returns-else-spans
returns-else-spans c =
    sym (read_whole c.args.address c.args.first c.loop-last.last _ (rows_left c.loop-last.rows) c.loop-last.found c.loop-last.invariant (ended _ c.loop-last-test.false) ∙ ap (λ t. Ok (cond t c.loop-last.found None, rows_left c.loop-last.rows)) (sym c.if-spans.ensures))
