use Rattle.std.proofs.Common.{arith, sym, ◌∙◌}
use Rattle.std.proofs.lemmas.Grind.{common_steps}
use Rattle.script_streams.proofs.ReadingLemmas.{gives_none}
use Rattle.script_streams.proofs.reader.ScriptBuffer.refill.Goals as goal

pub returns-in_default-clause-gives : goal.returns-in_default-clause-gives
returns-in_default-clause-gives g c =
    gives_none _ _ _ _ c.in_default.ensures.bytes (c.requires.empty ∙ sym (grind (arith, common_steps))) (omega arith) (omega arith)
