use Rattle.std.proofs.Common.{ap, arith}
use Rattle.std.specs.List.{flat_map}
use Rattle.std.proofs.lemmas.List.{drop_all, drop_more}
use Rattle.memory_replies.specs.Find.{address_line}
use Rattle.memory_replies.proofs.PrintLemmas.{up_to_end, up_to_start, up_to_then}
use Rattle.case_queries.proofs.found.print_addresses.Goals as goal

pub loop-i-init : goal.loop-i-init
loop-i-init g c = up_to_start

pub loop-i-preserved : goal.loop-i-preserved
loop-i-preserved g c = up_to_then (ap (flat_map address_line) (drop_more c.args.found.now c.loop-i.i 0 c.loop-i-test.true)) c.loop-i.invariant c.print_address.ensures

pub returns : goal.returns
returns g c = up_to_end (ap (flat_map address_line) (drop_all c.loop-i.i c.args.found.now (omega (arith, c.loop-i-test.false)))) c.loop-i.invariant
