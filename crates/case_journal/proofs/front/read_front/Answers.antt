use Rattle.case_journal.specs.Viewing.{header_of}
use Rattle.case_journal.proofs.ViewLemmas.{front_shown}
use Rattle.case_journal.proofs.front.read_front.Goals as goal

pub returns-clause-shows : goal.returns-clause-shows
returns-clause-shows g c b view =
    let one = c.in_ok-shape.ensures.shows b view in
    front_shown g.D.Disk c.read_superblock.new.disk c.read_headers.new.disk c.in_ok-shape.shape (header_of c.in_ok-a.a) (header_of c.in_ok-a.b) b c.front_of.result
    one (c.in_ok-a.ensures.shows one.shown one.view) c.front_of.ensures.front
