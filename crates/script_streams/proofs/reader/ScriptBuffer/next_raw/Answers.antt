use Rattle.std.proofs.Common.{arith}
use Rattle.script_streams.proofs.ReadingLemmas.{given_raw}
use Rattle.script_streams.proofs.reader.ScriptBuffer.next_raw.Goals as goal

pub returns-clause-gives : goal.returns-clause-gives
returns-clause-gives g c =
    given_raw _ _ c.args.self.now c.hold_some.new.self c.copy_held.new.self c.copy_held.result c.copy_held.new.into
    c.hold_some.ensures.gives c.in_ok-hold_some.ensures.end (omega arith) (omega (arith, c.copy_held.ensures.count, c.copy_held.auto.into)) c.copy_held.ensures.bytes c.copy_held.ensures.reads c.copy_held.ensures.steps
