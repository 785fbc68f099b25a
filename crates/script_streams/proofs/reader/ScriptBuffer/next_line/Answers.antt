use Rattle.std.proofs.Common.{[]}
use Rattle.script_streams.proofs.reader.ScriptBuffer.next_line.Goals as goal

pub returns-then-take_line-clause-gives : goal.returns-then-take_line-clause-gives
returns-then-take_line-clause-gives g c =
    let took = c.if-take_line.ensures.gives [] c.clear.ensures in (took.0, took.1, took.2, took.3 _)

pub returns-clause-gives : goal.returns-clause-gives
returns-clause-gives g c =
    let took = c.if-take_line.ensures.gives [] c.clear.ensures in
    c.finish_line.ensures.gives c.args.self.now _ took.0 took.1 took.2 (took.3 _)
