use Rattle.std.proofs.Common.{◌∙◌, ◌+◌, ◌*◌, ap, ℕ}
use Rattle.salvage.specs.Mending.{padded}
use Rattle.salvage.proofs.PadLemmas.{second_missing, second_there}
use Rattle.salvage.proofs.mending.is_half.Goals as goal

pub returns-then-is_header-clause-half : goal.returns-then-is_header-clause-half
returns-then-is_header-clause-half g c = λ honest.
    let b = g.S.Source.seen c.args.source.now in
    second_there c.args.half_blocks b c.read_some.new.into c.is_header.result c.is_head.result
    (c.in_ok-read_some.ensures.bytes honest ∙ ap (λ (n : ℕ). padded b (4096 * (1 + n)) 40) c.from.ensures)
    c.read_some.auto.into c.if-is_header.true c.is_header.ensures c.is_head.ensures

pub returns-else-is_header-clause-half : goal.returns-else-is_header-clause-half
returns-else-is_header-clause-half g c = λ honest.
    let b = g.S.Source.seen c.args.source.now in
    second_missing c.args.half_blocks b c.read_some.new.into c.is_header.result
    (c.in_ok-read_some.ensures.bytes honest ∙ ap (λ (n : ℕ). padded b (4096 * (1 + n)) 40) c.from.ensures)
    c.if-is_header.false c.is_header.ensures
