use Rattle.std.proofs.Common.{◌≤◌, ◌<◌, ℕ, drop}
use Rattle.case_queries.specs.Pieces.{AreApart, AreBeside}
use Rattle.case_queries.proofs.pieces.without_all.Given as goal

-- a range within this one that is apart from those that are left is apart from all
abbrev pub invariant-loop-piece : goal.invariant-loop-piece
invariant-loop-piece l = record {
  has : (l.left.start ≤ l.place) × (l.place < l.left.past);
  inside : (l.fn.range.start ≤ l.left.start) × (l.left.past ≤ l.fn.range.past);
  beside : AreBeside l.place (drop l.piece-index l.pieces);
  apart : (start past : ℕ) → l.left.start ≤ start → past ≤ l.left.past → AreApart start past (drop l.piece-index l.pieces) → AreApart start past l.pieces;
}
