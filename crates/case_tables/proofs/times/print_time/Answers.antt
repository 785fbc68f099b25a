use Rattle.std.proofs.Common.{cond, ap, sym, ◌∙◌}
use Rattle.std.proofs.lemmas.Bool.{ne_eqb}
use Rattle.std.specs.Prelude.{◌/◌, codes, decimal}
use Rattle.case_tables.specs.Days.{dated}
use Rattle.case_tables.specs.Times.{dated_text, time_text}
use Rattle.script_streams.specs.PrintLaws.{prints_then, prints_as}
use Rattle.case_tables.proofs.times.print_time.Goals as goal

pub returns-then-time-eq0 : goal.returns-then-time-eq0
returns-then-time-eq0 g c = prints_as (ap time_text (sym c.if-time-eq0.true)) c.print.ensures

pub returns-in-Some : goal.returns-in-Some
returns-in-Some g c =
    let time = c.args.time in
    prints_as (ap (λ d. dated_text d time) (sym c.in-Some.is ∙ c.day_of.ensures)
    ∙ ap (λ t. cond t (codes "-") (dated_text (dated (time / 86_400)) time)) (sym (ne_eqb time 0 c.if-time-eq0.false)))
    c.print_moment.ensures

pub returns-in-None : goal.returns-in-None
returns-in-None g c =
    let time = c.args.time in
    prints_as (ap (λ d. dated_text d time) (sym c.in-None.is ∙ c.day_of.ensures)
    ∙ ap (λ t. cond t (codes "-") (dated_text (dated (time / 86_400)) time)) (sym (ne_eqb time 0 c.if-time-eq0.false)))
    (prints_then c.print-in-None.ensures (prints_as (ap decimal c.from.ensures) c.print_decimal.ensures))
