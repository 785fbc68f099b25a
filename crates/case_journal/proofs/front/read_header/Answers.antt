use Rattle.case_journal.specs.Viewing.{header_of}
use Rattle.case_journal.proofs.ViewLemmas.{header_shown}
use Rattle.case_journal.proofs.front.read_header.Goals as goal

pub returns-clause-shows : goal.returns-clause-shows
returns-clause-shows g c b view =
    header_shown g.D.Disk c.read_part.new.disk c.args.shape c.args.half c.half_start.result c.read_part.new.into b (header_of c.header_at.result)
    c.half_start.ensures c.read_part.auto.into (c.in_ok-read_part.ensures.shows b view) c.header_at.ensures
