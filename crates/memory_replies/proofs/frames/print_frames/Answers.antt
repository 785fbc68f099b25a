use Rattle.std.proofs.Common.{ap, sym, refl, ◌∙◌}
use Rattle.std.specs.List.{flat_map}
use Rattle.address_space.specs.SpaceWords.{space_of}
use Rattle.memory_replies.specs.Backtrace.{frame_line}
use Rattle.memory_replies.specs.FunctionWords.{places_by}
use Rattle.memory_replies.proofs.PrintLemmas.{up_to_start, up_to_then}
use Rattle.memory_replies.proofs.frames.print_frames.Goals as goal

pub loop-frame-init : goal.loop-frame-init
loop-frame-init g c = record { told = up_to_start; stop = refl }

pub loop-frame-preserved : goal.loop-frame-preserved
loop-frame-preserved g c = record {
  told = up_to_then (ap (flat_map (frame_line (places_by (space_of c.args.space.now).files c.args.names.now) c.args.ra)) c.in-Some.ensures.steps.frames) c.loop-frame.invariant.told c.print_frame.ensures;
  stop = c.loop-frame.invariant.stop ∙ sym c.in-Some.ensures.steps.stop;
}
