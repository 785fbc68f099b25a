use Rattle.std.proofs.Common.{[], ap, sym, take, ◌∙◌, arith}
use Rattle.std.proofs.lemmas.List.{flat_map_more, take_more}
use Rattle.std.specs.List.{flat_map}
use Rattle.case_screens.specs.Quotes.{quoted_byte}
use Rattle.script_streams.specs.PrintLaws.{prints_then, prints_as, prints_nothing}
use Rattle.case_screens.proofs.quotes.print_between.Goals as goal

pub loop-byte-init : goal.loop-byte-init
loop-byte-init g c = prints_nothing

pub loop-byte-preserved : goal.loop-byte-preserved
loop-byte-preserved g c =
    let bytes = c.args.word.now in
    let i = c.loop-byte.byte-index in
    prints_as (flat_map_more quoted_byte [] (take i bytes) _ ∙ ap (flat_map quoted_byte) (sym (take_more bytes i 0 (omega arith))))
    (prints_then c.loop-byte.invariant c.print_quoted_byte.ensures)
