use Rattle.std.proofs.Common.{None, Some, ap, ◌∙◌}
use Rattle.call_frames.specs.Entry.{entry_at}
use Rattle.call_frames.specs.FindingWords.{table_in}
use Rattle.call_frames.specs.Walk.{sound_entry}
use Rattle.call_frames.proofs.Order.{read_again}
use Rattle.call_frames.proofs.indexed.Indexed.first_covering.Goals as goal

pub returns-in_err-span : goal.returns-in_err-span
returns-in_err-span c =
    rw c.from_residual.ensures (read_again (table_in c.args.self.now) c.args.address None c.in_err-span.ensures)

pub returns : goal.returns
returns c =
    c.sound_entry.ensures
    ∙ ap (λ t. sound_entry (entry_at t c.in_ok-span.span.spot)) c.table.ensures
    ∙ read_again (table_in c.args.self.now) c.args.address (Some c.in_ok-span.span) c.in_ok-span.ensures
