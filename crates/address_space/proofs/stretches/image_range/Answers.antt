use Rattle.std.proofs.Common.{arith}
use Rattle.elf_view.specs.Header.{segments_of}
use Rattle.elf_view.specs.ViewWords.{image_of}
use Rattle.address_space.proofs.Filled.{widened}
use Rattle.address_space.proofs.stretches.image_range.Goals as goal

pub returns-clause-held : goal.returns-clause-held
returns-clause-held c =
    widened c.args.size c.args.first c.args.length c.held_by_any-held.result.start c.held_by_any-held.result.past c.min.result c.held_by_any-held.result.past (segments_of (image_of c.args.elf.now)) (omega (arith, c.min.ensures)) (omega arith)
    (rw c.segments.ensures.headers at c.held_by_any-held.ensures.held)
