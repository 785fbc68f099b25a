use Rattle.std.proofs.Common.{◌≡◌, ℕ, ◌-◌, ◌+◌, ◌/◌, length, ap, subst, arith}
use Rattle.std.specs.List.{flat_map, range_with_len}
use Rattle.script_streams.specs.Printing.{sink}
use Rattle.memory_replies.specs.Dump.{row_line}
use Rattle.memory_replies.proofs.AnswerLemmas.{range_step}
use Rattle.memory_replies.proofs.PrintLemmas.{PrintsUpTo, up_to_start, up_to_then}
use Rattle.memory_replies.proofs.dump.print_rows.Goals as goal

pub loop-i-init : goal.loop-i-init
loop-i-init g c =
    let count = (length c.args.bytes.now + 16 - 1) / 16 in
    let all : count ≡ count - 0 = omega arith in
    subst (λ (k : ℕ). PrintsUpTo (sink g.O.Output c.args.reply.now) (sink g.O.Output c.args.reply.now) (flat_map (row_line c.args.word.now c.args.first c.args.bytes.now) (range_with_len 0 count)) (flat_map (row_line c.args.word.now c.args.first c.args.bytes.now) (range_with_len 0 k))) all (up_to_start)

pub loop-i-preserved : goal.loop-i-preserved
loop-i-preserved g c =
    up_to_then (ap (flat_map (row_line c.args.word.now c.args.first c.args.bytes.now)) (range_step c.loop-i.i _ c.loop-i-test.true)) c.loop-i.invariant c.print_row.ensures
