use Rattle.std.proofs.Common.{rules, ◌<◌, length, ap, ◌∙◌, arith}
use Rattle.std.proofs.lemmas.List.{length-take}
use Rattle.seen_memory.proofs.Rows.{of_part}
use Rattle.seen_memory.proofs.at_hand.part_from.Goals as goal

pub returns : goal.returns
returns c =
    let found = c.part-bytes.result.now in
    let some : 0 < length found = search rules in
    let few = ap length c.part-bytes.ensures ∙ length-take c.args.most _ in
    (some, omega (arith, few), λ image is. of_part image c.args.piece.now.bytes.now found c.args.piece.now.at c.args.place _ c.args.most is c.part-bytes.ensures (omega (arith, c.in_ok-skipped.ensures)) some)
