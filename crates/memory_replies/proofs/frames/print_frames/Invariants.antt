use Rattle.std.proofs.Common.{◌≡◌}
use Rattle.script_streams.specs.Printing.{sink}
use Rattle.std.specs.List.{flat_map}
use Rattle.address_space.specs.SpaceWords.{space_of}
use Rattle.backtrace.specs.FrameWords.{frames_left, stop_left}
use Rattle.memory_replies.specs.Backtrace.{frame_line}
use Rattle.memory_replies.specs.FunctionWords.{places_by}
use Rattle.memory_replies.proofs.PrintLemmas.{PrintsUpTo}
use Rattle.memory_replies.proofs.frames.print_frames.Given as goal

abbrev pub invariant-loop-frame : goal.invariant-loop-frame
invariant-loop-frame g l = record {
  told : PrintsUpTo (sink g.O.Output l.initial.reply) (sink g.O.Output l.reply)
      (flat_map (frame_line (places_by (space_of l.space).files l.names) l.ra) (frames_left l.initial.frames)) (flat_map (frame_line (places_by (space_of l.space).files l.names) l.ra) (frames_left l.frames));
  stop : stop_left l.initial.frames ≡ stop_left l.frames;
}
