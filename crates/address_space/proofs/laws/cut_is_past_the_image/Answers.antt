use Rattle.address_space.proofs.Coverings.{held_len, held_byte}
use Rattle.address_space.proofs.laws.cut_is_past_the_image.Goals as goal

pub returns-clause-cut : goal.returns-clause-cut
returns-clause-cut c = held_len

pub returns-clause-byte : goal.returns-clause-byte
returns-clause-byte c = held_byte
