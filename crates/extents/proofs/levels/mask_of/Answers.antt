use Rattle.std.proofs.Common.{arith}
use Rattle.extents.proofs.WordLemmas.{mask_bits}
use Rattle.extents.proofs.levels.mask_of.Goals as goal

pub returns : goal.returns
returns c i short =
    mask_bits c.args.run c.args.place c.saturating_sub-low.result c.min-high.result i
    (omega (arith, c.saturating_sub-low.ensures)) (omega (arith, c.min-high.ensures)) c.requires.begun c.requires.not_over short
