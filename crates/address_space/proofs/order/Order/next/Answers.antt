use Rattle.std.proofs.Common.{◌<◌, ◌+◌, ◌*◌, ◌^◌, length, sym, arith}
use Rattle.address_space.proofs.Leaping.{next_row}
use Rattle.address_space.proofs.order.Order.next.Goals as goal

pub returns : goal.returns
returns c =
    let rows = c.args.self.now.rows.items in
    let count = c.count_to-count.result in
    let within = c.count_to-count.ensures.within in
    let less : count < length rows = omega (arith, within, c.len.ensures, c.if-count-len.false) in
    let next = next_row rows (c.args.number * 2 ^ 64 + c.args.at) count c.index.result.now c.args.self.now.rising c.count_to-count.ensures.below c.count_to-count.ensures.above less (sym c.index.ensures) in
    ((count, less, sym c.index.ensures), next.0, next.1)
