use Rattle.std.proofs.Common.{rules, []}
use Rattle.command_line.proofs.LineLemmas.{taken_more}
use Rattle.command_line.proofs.handle_words.known_pairs.Goals as goal

pub loop-pair-preserved : goal.loop-pair-preserved
loop-pair-preserved c = λ whole left rest.
    c.loop-pair.invariant whole left (taken_more c.loop-pair.line.items c.loop-pair.left_out.items c.args.pairs.now c.loop-pair.pair-index (record { ref_ptr = (0, 0); now = [] })
    c.add_known.new.line.items c.add_known.new.left_out.items whole left (search rules) c.in_ok-add_known.ensures.added rest)
