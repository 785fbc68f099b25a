use Rattle.case_info.proofs.StoredLemmas.{wants_others}
use Rattle.case_info.proofs.laws.wants_then_stored.Goals as goal

pub returns : goal.returns
returns c = λ told stored id x s. wants_others c.a_name_is_of_one_build.ensures.builds stored id x s told
