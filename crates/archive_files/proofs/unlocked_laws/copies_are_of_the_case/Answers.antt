use Rattle.archive_files.proofs.GoneLemmas.{copied, refused}
use Rattle.archive_files.proofs.unlocked_laws.copies_are_of_the_case.Goals as goal

pub returns-clause-copied : goal.returns-clause-copied
returns-clause-copied g c s seq start taken count failures shape x ys honest holds copies =
    copied g.S.SharedDisk c.the_next_number_is_above.ensures c.a_case_is_there_between.ensures s seq start taken shape x ys honest holds copies

pub returns-clause-never_at_will : goal.returns-clause-never_at_will
returns-clause-never_at_will g c s seq start taken count failures shape x ys honest holds there copies = refused g.S.SharedDisk s seq shape x ys honest holds there copies.1
