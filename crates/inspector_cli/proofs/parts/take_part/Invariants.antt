use Rattle.std.proofs.Common.{◌≡◌, ℕ, ◌+◌, List, [], length}
use Rattle.script_streams.specs.Reading.{Gives}
use Rattle.script_streams.specs.Replies.{PrintsText, printing}
use Rattle.inspector_cli.specs.Reply.{Takes}
use Rattle.inspector_cli.proofs.parts.take_part.Given as goal

abbrev pub invariant-loop-missing : goal.invariant-loop-missing
invariant-loop-missing g l = record {
  raw : List ℕ;
  counted : length raw + l.missing ≡ l.fn.count;
  gives : Gives (g.I.Input.remaining l.initial.input) (g.I.Input.remaining l.input) l.initial.buffer l.buffer raw;
  takes : Takes g.D.Disk l.fn.archive l.slot raw l.verdict l.archive;
  told : PrintsText (printing g.O.Output l.initial.reply l.reply) [];
  failures : g.I.Input.failures l.input ≡ g.I.Input.failures l.initial.input;
}

abbrev pub decreases-loop-missing : goal.decreases-loop-missing
decreases-loop-missing g l = l.missing
