use Rattle.archive_files.proofs.LocklessLemmas.{holds_archive}
use Rattle.archive_files.proofs.unlocked_laws.looks_hold_an_archive.Goals as goal

pub returns : goal.returns
returns g c s moments standing mark shape watched are marked few few_again later =
    holds_archive c.what_is_seen_is_a_moment.ensures moments standing mark shape are marked g.S.SharedDisk s watched few few_again later
