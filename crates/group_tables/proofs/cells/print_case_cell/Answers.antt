use Rattle.std.proofs.Common.{ap, sym, ◌∙◌}
use Rattle.std.specs.Prelude.{decimal}
use Rattle.script_words.specs.Printing.{shown}
use Rattle.script_streams.specs.PrintLaws.{prints_as}
use Rattle.group_tables.specs.Cells.{case_cell, label_text}
use Rattle.group_tables.specs.Values.{member_said}
use Rattle.group_tables.proofs.cells.print_case_cell.Goals as goal

pub returns-in-Number : goal.returns-in-Number
returns-in-Number g c = prints_as (ap decimal c.from.ensures ∙ ap (case_cell c.args.zone (member_said c.args.member.now)) (sym c.in-Number.is)) c.print_decimal.ensures

pub returns-in-Time : goal.returns-in-Time
returns-in-Time g c = prints_as (ap (case_cell c.args.zone (member_said c.args.member.now)) (sym c.in-Time.is)) c.print_time_in.ensures

pub returns-in-Pid : goal.returns-in-Pid
returns-in-Pid g c = prints_as (ap (case_cell c.args.zone (member_said c.args.member.now)) (sym c.in-Pid.is)) c.print_known.ensures

pub returns-in-Signal : goal.returns-in-Signal
returns-in-Signal g c = prints_as (ap (case_cell c.args.zone (member_said c.args.member.now)) (sym c.in-Signal.is)) c.print_signal.ensures

pub returns-in-Size : goal.returns-in-Size
returns-in-Size g c = prints_as (ap (case_cell c.args.zone (member_said c.args.member.now)) (sym c.in-Size.is)) c.print_size.ensures

pub returns-in-Kept : goal.returns-in-Kept
returns-in-Kept g c = prints_as (c.kept_word.ensures ∙ ap (case_cell c.args.zone (member_said c.args.member.now)) (sym c.in-Kept.is)) c.print.ensures

pub returns-in-Name : goal.returns-in-Name
returns-in-Name g c = prints_as (ap shown c.as_slice.ensures.value ∙ ap (case_cell c.args.zone (member_said c.args.member.now)) (sym c.in-Name.is)) c.print_text.ensures

pub returns-in-Label : goal.returns-in-Label
returns-in-Label g c =
    prints_as (ap (λ t. label_text t c.args.member.now.is_perhaps) c.as_slice-in-Label.ensures.value
    ∙ ap (case_cell c.args.zone (member_said c.args.member.now)) (sym c.in-Label.is)) c.print_label.ensures
