use Rattle.salvage.proofs.ReadsLemmas.{whatever}
use Rattle.salvage.proofs.cases_found.choose_front.Goals as goal

pub returns-clause-from : goal.returns-clause-from
returns-clause-from c = whatever c.make_front.result (λ blocks bytes are. c.choose_smaller.ensures.from blocks bytes (c.choose.ensures.from blocks bytes are))
