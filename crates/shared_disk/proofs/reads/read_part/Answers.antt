use Rattle.std.proofs.Common.{ℕ, List, subst}
use Rattle.case_journal.proofs.PublishLemmas.{on_ok}
use Rattle.shared_disk.specs.Reading.{AreReadIn}
use Rattle.shared_disk.proofs.ReadLemmas.{put_same, put_part}
use Rattle.shared_disk.proofs.reads.read_part.Goals as goal

pub returns-clause-read : goal.returns-clause-read
returns-clause-read g c =
    on_ok c.read_at.result _ _
    (λ read honest. subst (λ (l : List ℕ). AreReadIn (g.D.WatchedDisk.moments c.args.disk.now) (g.D.WatchedDisk.reached c.args.disk.now) (g.D.WatchedDisk.reached c.read_at.new.self) c.args.at l)
    (put_part c.args.front.now c.read_at.new.into c.args.at c.args.n c.read_at.auto.into c.requires.front) (read honest))
    c.read_at.ensures.bytes

pub returns-clause-others : goal.returns-clause-others
returns-clause-others g c = put_same c.args.front.now c.read_at.new.into c.args.at c.args.n c.read_at.auto.into c.requires.front
