use Rattle.std.proofs.Common.{◌∙◌, sym}
use Rattle.case_journal.proofs.ViewLemmas.{shape_shown}
use Rattle.case_journal.proofs.front.read_superblock.Goals as goal

pub returns-clause-shows : goal.returns-clause-shows
returns-clause-shows g c b view =
    shape_shown g.D.Disk c.read_part.new.disk c.read_part.new.into b c.length-size.result c.read_shape.result
    (c.length-size.ensures ∙ sym c.read_part.ensures.quiet.size) c.if-size-lt-BLOCK.false c.read_part.auto.into (c.in_ok-read_part.ensures.shows b view) c.read_shape.ensures
