use Rattle.handler_files.specs.Counters.{name, outcome_word, reason_behind, reason_if_lost}
use Rattle.handler_files.proofs.ReadingLemmas.{name_none, name_none_second, name_third}
use Rattle.handler_files.proofs.reading.after_name.Goals as goal

pub returns-in_err-reason : goal.returns-in_err-reason
returns-in_err-reason c = rw c.from_residual.ensures (name_none c.args.counter c.args.text.now c.outcome.result.now c.outcome.ensures c.in_err-reason.ensures)

pub returns-in_err-space : goal.returns-in_err-space
returns-in_err-space c = rw c.from_residual-in_err-space.ensures (name_none_second c.args.counter c.args.text.now c.outcome.result.now c.in_ok-reason.reason.now c.reason.result c.outcome.ensures c.reason.ensures c.in_ok-reason.ensures c.in_err-space.ensures)

pub returns : goal.returns
returns c = name_third c.args.counter c.args.text.now c.outcome.result.now c.in_ok-reason.reason.now c.in_ok-space.space.now c.reason.result c.after-2.result c.outcome.ensures c.reason.ensures c.in_ok-reason.ensures c.in_ok-space.ensures c.after-2.ensures
