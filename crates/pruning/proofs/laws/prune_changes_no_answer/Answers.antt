use Rattle.pruning.proofs.LookupLemmas.{no_answer_changes}
use Rattle.pruning.proofs.laws.prune_changes_no_answer.Goals as goal

pub returns : goal.returns
returns c =
    no_answer_changes (record { builds = c.a_name_is_of_one_build.ensures.builds; debugs = c.a_name_is_of_one_build.ensures.debugs; apart = c.a_name_is_of_one_build.ensures.apart })
