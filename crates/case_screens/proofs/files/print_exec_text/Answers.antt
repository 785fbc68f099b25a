use Rattle.std.proofs.Common.{length, sym, arith}
use Rattle.std.proofs.lemmas.Bool.{cond_below}
use Rattle.script_streams.specs.PrintLaws.{prints_then, prints_as}
use Rattle.case_screens.proofs.TextLemmas.{store_some}
use Rattle.case_screens.proofs.files.print_exec_text.Goals as goal

pub returns-then-name-gt-CASE_NAME : goal.returns-then-name-gt-CASE_NAME
returns-then-name-gt-CASE_NAME g c = prints_as (cond_below 128 (length c.args.name.now) _ _ (omega arith)) c.print.ensures

pub returns-else-name-gt-CASE_NAME : goal.returns-else-name-gt-CASE_NAME
returns-else-name-gt-CASE_NAME g c =
    prints_as (sym (store_some c.args.name.now (omega (arith, c.if-name-gt-CASE_NAME.false)))) (prints_then c.print-else-name-gt-CASE_NAME.ensures c.print_quoted.ensures)
