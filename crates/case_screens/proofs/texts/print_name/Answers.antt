use Rattle.std.proofs.Common.{sym, arith}
use Rattle.std.proofs.lemmas.List.{length-take}
use Rattle.script_streams.specs.PrintLaws.{prints_then, prints_as}
use Rattle.case_screens.proofs.TextLemmas.{name_cut}
use Rattle.case_screens.proofs.texts.print_name.Goals as goal

pub slice_bounds-print_text-end : goal.slice_bounds-print_text-end
slice_bounds-print_text-end g c = let is = length-take 256 c.args.name.now in omega (arith, is, c.if-name-gt-NAME_BYTES.true)

pub returns-then-name-gt-NAME_BYTES : goal.returns-then-name-gt-NAME_BYTES
returns-then-name-gt-NAME_BYTES g c =
    prints_as (sym (name_cut c.args.name.now (omega (arith, c.if-name-gt-NAME_BYTES.true)))) (prints_then c.print_text.ensures c.print_more.ensures)
