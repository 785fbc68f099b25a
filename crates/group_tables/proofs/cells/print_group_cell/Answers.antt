use Rattle.std.proofs.Common.{ap, map, sym, ◌∙◌}
use Rattle.std.specs.Prelude.{decimal}
use Rattle.script_words.specs.Printing.{shown}
use Rattle.case_tables.specs.Times.{time_in}
use Rattle.script_streams.specs.PrintLaws.{prints_as}
use Rattle.group_tables.specs.Cells.{counts_text, group_cell}
use Rattle.group_tables.specs.Summary.{certain_count, first_time, labels_text, last_time, newest, perhaps_count}
use Rattle.group_tables.specs.Values.{member_said, row_said}
use Rattle.group_tables.proofs.cells.print_group_cell.Goals as goal

pub returns-in-Cores : goal.returns-in-Cores
returns-in-Cores g c =
    prints_as (ap (λ ms. counts_text (certain_count (map member_said ms)) (perhaps_count (map member_said ms))) c.deref.ensures.value
    ∙ ap (group_cell c.args.zone c.args.latest (row_said c.args.row.now)) (sym c.in-Cores.is)) c.print_counts.ensures

pub returns-in-First : goal.returns-in-First
returns-in-First g c =
    prints_as (ap (time_in c.args.zone) c.first_time.ensures ∙ ap (λ ms. time_in c.args.zone (first_time c.args.latest (map member_said ms))) c.deref-in-First.ensures.value
    ∙ ap (group_cell c.args.zone c.args.latest (row_said c.args.row.now)) (sym c.in-First.is)) c.print_time_in.ensures

pub returns-in-Last : goal.returns-in-Last
returns-in-Last g c =
    prints_as (ap (time_in c.args.zone) c.last_time.ensures ∙ ap (λ ms. time_in c.args.zone (last_time c.args.latest (map member_said ms))) c.deref-in-Last.ensures.value
    ∙ ap (group_cell c.args.zone c.args.latest (row_said c.args.row.now)) (sym c.in-Last.is)) c.print_time_in-in-Last.ensures

pub returns-in-Signal : goal.returns-in-Signal
returns-in-Signal g c = prints_as (ap (group_cell c.args.zone c.args.latest (row_said c.args.row.now)) (sym c.in-Signal.is)) c.print_signal.ensures

pub returns-in-Newest : goal.returns-in-Newest
returns-in-Newest g c =
    prints_as (ap decimal (c.from.ensures ∙ c.newest.ensures ∙ ap (λ ms. newest (map member_said ms)) c.deref-in-Newest.ensures.value)
    ∙ ap (group_cell c.args.zone c.args.latest (row_said c.args.row.now)) (sym c.in-Newest.is)) c.print_decimal.ensures

pub returns-in-Labels : goal.returns-in-Labels
returns-in-Labels g c =
    prints_as (ap labels_text c.requires
    ∙ ap (group_cell c.args.zone c.args.latest (row_said c.args.row.now)) (sym c.in-Labels.is)) c.print_labels.ensures

pub returns-in-Program : goal.returns-in-Program
returns-in-Program g c =
    prints_as (ap shown c.deref-in-Program.ensures.value
    ∙ ap (group_cell c.args.zone c.args.latest (row_said c.args.row.now)) (sym c.in-Program.is)) c.print_text.ensures

pub returns-in-Frames : goal.returns-in-Frames
returns-in-Frames g c = prints_as (ap (group_cell c.args.zone c.args.latest (row_said c.args.row.now)) (sym c.in-Frames.is)) c.print_frames.ensures
