use Rattle.std.proofs.Common.{refl, ap}
use Rattle.windowed_search.specs.ScanWords.{next_address}
use Rattle.case_queries.proofs.WalkLemmas.{walk_takes}
use Rattle.case_queries.proofs.walk.Walk.take_piece.Goals as goal

pub returns-in-Ok-clause-walks : goal.returns-in-Ok-clause-walks
returns-in-Ok-clause-walks g c before space aim so_far has =
    let read = c.in_ok-read.ensures in
    walk_takes g.D.Disk before c.args.image space aim c.read.new.archive c.read.new.self _ (next_address c.args.self.now.search) c.args.self.now.at c.args.count (read.walks before space aim so_far) read.at read.long (ap next_address read.search) has refl refl
    c.in-Ok.ensures.aim (rw c.deref.ensures.value at c.in-Ok.ensures.scanned)

pub returns-in-Err-clause-walks : goal.returns-in-Err-clause-walks
returns-in-Err-clause-walks g c before space aim so_far has =
    let read = c.in_ok-read.ensures.walks before space aim so_far in
    (c.read.new.self.at, read.bytes, read.read)
