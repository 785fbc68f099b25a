use Rattle.std.proofs.Common.{◌≡◌, ℕ, List, Option}
use Rattle.script_streams.specs.Lines.{IsLine, KeepsLine}
use Rattle.script_streams.specs.Reading.{Gives, steps_left}
use Rattle.script_streams.specs.declared.reader.ScriptBuffer.{ScriptBuffer}
use Rattle.script_streams.proofs.reader.ScriptBuffer.finish_line.Given as goal

abbrev pub invariant-loop-ending : goal.invariant-loop-ending
invariant-loop-ending g l = record {
  so_far : (start : ScriptBuffer) (a : Option (List ℕ)) (front : List ℕ) → IsLine front → KeepsLine front l.initial.line → Gives a (g.I.Input.remaining l.initial.input) start l.initial.self front
      → (kept : List ℕ) × IsLine kept × KeepsLine kept l.line × Gives a (g.I.Input.remaining l.input) start l.self kept;
  failures : g.I.Input.failures l.input ≡ g.I.Input.failures l.initial.input;
}

abbrev pub decreases-loop-ending : goal.decreases-loop-ending
decreases-loop-ending g l = steps_left l.self
