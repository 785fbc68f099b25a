use Rattle.handler_files.proofs.PlaceLemmas.{has_place}
use Rattle.handler_files.proofs.counters.each_counter_has_its_place.Goals as goal

pub returns : goal.returns
returns c = has_place
