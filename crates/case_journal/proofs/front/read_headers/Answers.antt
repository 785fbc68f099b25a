use Rattle.case_journal.specs.Viewing.{header_of}
use Rattle.case_journal.proofs.ViewLemmas.{headers_shown}
use Rattle.case_journal.proofs.front.read_headers.Goals as goal

pub returns-clause-shows : goal.returns-clause-shows
returns-clause-shows g c b view =
    let one = c.in_ok-a.ensures.shows b view in
    headers_shown g.D.Disk c.read_header.new.disk c.read_header-2.new.disk c.args.shape (header_of c.in_ok-a.a) (header_of c.in_ok-b.b) b c.requires.limits
    one (c.in_ok-b.ensures.shows one.shown one.view)
