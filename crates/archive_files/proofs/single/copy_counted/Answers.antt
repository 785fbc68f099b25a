use Rattle.archive_files.proofs.LookLemmas.{copies_taken}
use Rattle.archive_files.proofs.single.copy_counted.Goals as goal

pub returns : goal.returns
returns g c = copies_taken _ _ c.take_look-looked.result c.new-counted.ensures.taken c.new-counted.ensures.failures c.copy_over-copied.ensures
