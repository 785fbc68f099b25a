use Rattle.std.proofs.Common.{◌+◌, arith}
use Rattle.elf_view.specs.SegmentWords.{segment_view}
use Rattle.address_space.proofs.Values.{no_byte}
use Rattle.address_space.proofs.runs.held_from.Goals as goal

pub returns-then-place-size-clause-values : goal.returns-then-place-size-clause-values
returns-then-place-size-clause-values c space i k none h = no_byte space (c.args.at + k) i (segment_view c.args.segment) none (omega arith)
