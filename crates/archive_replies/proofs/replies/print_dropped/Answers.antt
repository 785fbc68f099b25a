use Rattle.std.proofs.Common.{[], ap, sym, take, ◌∙◌, arith}
use Rattle.std.proofs.lemmas.List.{flat_map_more, take_more}
use Rattle.std.specs.List.{flat_map}
use Rattle.std.specs.Prelude.{decimal}
use Rattle.archive_replies.specs.Texts.{dropped_line}
use Rattle.script_streams.specs.PrintLaws.{prints_then, prints_as, prints_nothing}
use Rattle.archive_replies.proofs.replies.print_dropped.Goals as goal

pub loop-seq-init : goal.loop-seq-init
loop-seq-init g c = prints_nothing

pub loop-seq-preserved : goal.loop-seq-preserved
loop-seq-preserved g c =
    let seqs = c.args.dropped.now in
    let i = c.loop-seq.seq-index in
    let told = prints_then (prints_then c.print.ensures (prints_as (ap decimal c.from.ensures) c.print_decimal.ensures)) c.print-in-loop-seq.ensures in
    prints_as (flat_map_more dropped_line [] (take i seqs) _ ∙ ap (flat_map dropped_line) (sym (take_more seqs i 0 (omega arith))))
    (prints_then c.loop-seq.invariant told)
