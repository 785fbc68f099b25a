use Rattle.std.proofs.Common.{◌≡◌, ◌≤◌, ◌<◌, ℕ}
use Rattle.elf_view.specs.Header.{segment_at, segment_count}
use Rattle.elf_view.specs.ViewWords.{image_of}
use Rattle.build_ids.specs.Fronts.{HasNotesBefore}
use Rattle.build_ids.proofs.front.last_end.Given as goal

-- the notes of the program headers that went by lie before the place
abbrev pub invariant-loop-i : goal.invariant-loop-i
invariant-loop-i l = record {
  all : l.i-end ≡ segment_count (image_of l.elf);
  within : l.end ≤ l.size;
  has : (k : ℕ) → k < l.i → HasNotesBefore l.size l.end (segment_at (image_of l.elf) k);
}
