use Rattle.script_streams.proofs.ReadingLemmas.{took_line, took_all}
use Rattle.script_streams.proofs.reader.ScriptBuffer.take_line.Goals as goal

pub returns-in-Some-clause-gives : goal.returns-in-Some-clause-gives
returns-in-Some-clause-gives c = λ front keeps.
    let took = took_line c.args.self.now c.use_up.new.self c.held-held.result.now c.split_at.result.0.now c.in-Some.at
    c.held-held.ensures c.in-Some.ensures c.split_at.ensures.front c.use_up.ensures.held c.use_up.ensures.reads c.use_up.ensures.steps in
    (c.split_at.result.0.now, took.0, c.keep.ensures front keeps, took.1)

pub returns-in-None-clause-gives : goal.returns-in-None-clause-gives
returns-in-None-clause-gives c = λ front keeps.
    let took = took_all c.args.self.now c.use_up-in-None.new.self c.held-held.result.now
    c.held-held.ensures c.in-None.ensures c.use_up-in-None.ensures.held c.use_up-in-None.ensures.reads c.use_up-in-None.ensures.steps in
    (c.held-held.result.now, took.0, c.keep-in-None.ensures front keeps, took.1)
