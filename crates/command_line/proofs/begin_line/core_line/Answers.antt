use Rattle.std.proofs.Common.{rules, List, ℕ, [], map, drop, ◌+◌, subst}
use Rattle.command_line.specs.Requesting.{IsJoined}
use Rattle.command_line.proofs.LineLemmas.{joined_more}
use Rattle.command_line.proofs.begin_line.core_line.Goals as goal

pub loop-pair-preserved : goal.loop-pair-preserved
loop-pair-preserved c = λ whole rest.
    let added = c.in_ok-add_pair.ensures.added in
    let at = c.loop-pair.pair-index in
    let P : List ℕ → Type 0 = λ line. IsJoined c.args.escapes line (map (λ p. p.now) (drop (at + 1) c.args.pairs.now)) whole in
    c.loop-pair.invariant whole (joined_more c.args.escapes c.loop-pair.line.items c.args.pairs.now at (record { ref_ptr = (0, 0); now = [] }) added.0 whole (search rules) added.2 (subst P added.1 rest))
