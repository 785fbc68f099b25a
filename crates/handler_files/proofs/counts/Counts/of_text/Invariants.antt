use Rattle.std.proofs.Common.{◌≡◌, ◌++◌, ℕ, List, drop, length, take}
use Rattle.handler_files.specs.Counters.{counters}
use Rattle.handler_files.specs.Counts.{AreCounts}
use Rattle.handler_files.proofs.LoopLemmas.{lines}
use Rattle.handler_files.proofs.counts.Counts.of_text.Given as goal

-- the lines so far have these counts, and what is left is the rest of the text
abbrev pub invariant-loop-index : goal.invariant-loop-index
invariant-loop-index l = record {
  long : length l.counts ≡ 25;
  only : l.text ≡ lines (take l.index counters) (take l.index l.counts) ++ l.left;
  back : (wanted : List ℕ) → AreCounts wanted → l.text ≡ lines counters wanted
      → (take l.index l.counts ≡ take l.index wanted) × (l.left ≡ lines (drop l.index counters) (drop l.index wanted));
}
