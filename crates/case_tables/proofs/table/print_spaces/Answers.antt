use Rattle.std.proofs.Common.{◌≡◌, ap, arith}
use Rattle.std.proofs.lemmas.List.{replicate_more}
use Rattle.case_tables.specs.Table.{spaces}
use Rattle.script_streams.specs.PrintLaws.{prints_then, prints_as, prints_nothing}
use Rattle.case_tables.proofs.table.print_spaces.Goals as goal

pub loop-init : goal.loop-init
loop-init g c = prints_nothing

pub loop-preserved : goal.loop-preserved
loop-preserved g c = prints_as (replicate_more c.loop.counter 32) (prints_then c.loop.invariant c.print.ensures)

pub returns : goal.returns
returns g c =
    let all : c.loop.counter ≡ c.args.count = omega arith in
    prints_as (ap spaces all) c.loop.invariant
