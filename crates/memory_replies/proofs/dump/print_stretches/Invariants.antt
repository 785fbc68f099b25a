use Rattle.std.proofs.Common.{◌≡◌, ℕ, ◌+◌, List, length}
use Rattle.std.specs.List.{flat_map}
use Rattle.script_streams.specs.Printing.{sink}
use Rattle.elf_view.specs.Header.{segments_of}
use Rattle.address_space.specs.Pieces.{pieces_of}
use Rattle.address_space.specs.SpaceWords.{core_of, space_of}
use Rattle.address_space.specs.StretchesWords.{AreLeftWithin, front_of, pieces_left_in}
use Rattle.address_space.specs.Whole.{AreHeldWithin, IsFrontOf, space_in}
use Rattle.memory_replies.specs.Dump.{piece_lines}
use Rattle.memory_replies.specs.Window.{IsPartOf}
use Rattle.memory_replies.proofs.PrintLemmas.{PrintsUpTo}
use Rattle.memory_replies.proofs.dump.print_stretches.Given as goal

-- those that went by are told, whichever image it is, and the bytes of those that are left are in the window
abbrev pub invariant-loop-stretch : goal.invariant-loop-stretch
invariant-loop-stretch g l = record {
  can_next : (goal.iterator-loop-stretch g).can_next l.stretch-iterator;
  is_finite : (goal.iterator-loop-stretch g).is_finite l.stretch-iterator;
  front : front_of l.stretch-iterator ≡ core_of l.space;
  size : l.stretch-iterator.size ≡ l.window.size;
  told : (image : List ℕ) → IsFrontOf (core_of l.space) l.window.size image → IsPartOf image l.window.at l.window.bytes.now → AreHeldWithin l.window.size l.first l.length l.window.at (l.window.at + length l.window.bytes.now) (segments_of (core_of l.space))
      → AreLeftWithin l.window.at (l.window.at + length l.window.bytes.now) l.stretch-iterator
      × PrintsUpTo (sink g.O.Output l.initial.reply) (sink g.O.Output l.reply) (flat_map piece_lines (pieces_of (space_in image (space_of l.space)) l.first l.length)) (flat_map piece_lines (pieces_left_in image l.stretch-iterator));
}
