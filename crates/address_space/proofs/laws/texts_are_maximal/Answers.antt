use Rattle.address_space.proofs.Coverings.{is_text}
use Rattle.address_space.proofs.laws.texts_are_maximal.Goals as goal

pub returns : goal.returns
returns c = is_text
