use Rattle.std.proofs.Common.{◌∙◌}
use Rattle.salvage.proofs.choosing.choose_of.Goals as goal

pub returns-in_err-choose_one-clause-from : goal.returns-in_err-choose_one-clause-from
returns-in_err-choose_one-clause-from c = λ blocks bytes are. c.choose_one.ensures.from blocks bytes (c.loop-index.invariant.from blocks bytes are)

pub loop-index-preserved : goal.loop-index-preserved
loop-index-preserved c = record {
  drops = c.choose_one.ensures.drops ∙ c.loop-index.invariant.drops;
  dropped = c.choose_one.ensures.dropped ∙ c.loop-index.invariant.dropped;
  from = λ blocks bytes are. c.choose_one.ensures.from blocks bytes (c.loop-index.invariant.from blocks bytes are);
  stay = λ place k among. c.choose_one.ensures.stay place k (c.loop-index.invariant.stay place k among);
}
