use Rattle.std.proofs.Common.{[], ap, sym, take, ◌∙◌, arith}
use Rattle.std.proofs.lemmas.List.{flat_map_more, take_more}
use Rattle.std.specs.List.{flat_map}
use Rattle.case_screens.specs.Quotes.{between_quotes, quoted_shown}
use Rattle.script_streams.specs.PrintLaws.{prints_then, prints_as, prints_nothing}
use Rattle.case_screens.proofs.quotes.print_bytes.Goals as goal

pub loop-byte-init : goal.loop-byte-init
loop-byte-init g c = prints_nothing

pub loop-byte-preserved : goal.loop-byte-preserved
loop-byte-preserved g c =
    let bytes = c.args.name.now in
    let i = c.loop-byte.byte-index in
    prints_as (flat_map_more quoted_shown [] (take i bytes) _ ∙ ap (flat_map quoted_shown) (sym (take_more bytes i 0 (omega arith))))
    (prints_then c.loop-byte.invariant (prints_as (ap between_quotes (c.as_slice.ensures.value ∙ c.print_byte.ensures)) c.print_between.ensures))
