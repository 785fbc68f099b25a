use Rattle.std.proofs.Common.{ℕ, List, ◌++◌, length, Ok}
use Rattle.std.specs.List.{flat_map}
use Rattle.intake.specs.Parts.{Parts, state_of}
use Rattle.script_streams.specs.Replies.{PrintsText, printing}
use Rattle.inspector_cli.specs.Fitting.{Going, IsServed, TakesWhile, going_text}
use Rattle.inspector_cli.proofs.fitting.make_room.Given as goal

abbrev pub invariant-loop-is_gone : goal.invariant-loop-is_gone
invariant-loop-is_gone g l = record {
  went : (begun : Parts g.row.D.Denot) (so_far : List ℕ) (gone : List (Going g.row.D.Denot)) → TakesWhile g.D.Disk l.fn.order begun so_far gone (Ok tt) l.fn.archive
      → (more : List (Going g.row.D.Denot)) × PrintsText (printing g.O.Output l.fn.reply l.reply) (flat_map going_text more) × TakesWhile g.D.Disk l.fn.order begun so_far (gone ++ more) (Ok tt) l.archive;
  served : IsServed (state_of l.fn.archive) → IsServed (state_of l.archive);
}

abbrev pub decreases-loop-is_gone : goal.decreases-loop-is_gone
decreases-loop-is_gone g l = length (state_of l.archive).cases
