use Rattle.case_tables.proofs.SignalLemmas.{no_more_named, none_named}
use Rattle.case_tables.proofs.signals.signal_named.Goals as goal

pub loop-signal-preserved : goal.loop-signal-preserved
loop-signal-preserved c = no_more_named c.loop-signal.signal c.args.name.now c.loop-signal.invariant (c.is_named.ensures.no c.if-is_named.false)

pub returns-clause-none : goal.returns-clause-none
returns-clause-none c = λ none n named. none_named c.loop-signal.signal c.args.name.now c.loop-signal.invariant c.loop-signal-test.false n named
