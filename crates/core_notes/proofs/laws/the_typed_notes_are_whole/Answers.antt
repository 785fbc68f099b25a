use Rattle.core_notes.proofs.Whole.{whole_is}
use Rattle.core_notes.proofs.laws.the_typed_notes_are_whole.Goals as goal

pub returns : goal.returns
returns c = whole_is
