use Rattle.std.proofs.Common.{◌≡◌, ◌++◌, ℕ, List}
use Rattle.address_space.specs.Source.{ExecutableView}
use Rattle.frame_replies.specs.Walking.{IsWalkOf}
use Rattle.intake.specs.Parts.{Parts, state_of}
use Rattle.case_queries.specs.Fronts.{HasSize}
use Rattle.case_queries.specs.Pieces.{ArePieces, BeginsWith, SeesPieces}
use Rattle.case_queries.specs.declared.window.Part.{Part}
use Rattle.case_queries.proofs.frames.walk_frames.Given as goal

-- these pieces are read, and the walk goes as far as they lead
abbrev pub invariant-loop-count : goal.invariant-loop-count
invariant-loop-count g l = record {
  has : HasSize (state_of l.archive) l.image.seq l.image.size;
  some : (b : List ℕ) × BeginsWith l.image l.pieces.items b;
  earlier : (b : List ℕ) → ArePieces b l.pieces.items → ArePieces b l.initial.pieces.items;
  sees : (before : Parts g.row.D.Denot) → SeesPieces g.D.Disk before l.image l.initial.pieces.items l.initial.archive → SeesPieces g.D.Disk before l.image l.pieces.items l.archive;
  behind : (more : List Part) × (l.pieces.items ≡ l.initial.pieces.items ++ more);
  walks : (b : List ℕ) (stored : List ExecutableView) (thread : ℕ) → BeginsWith l.image l.pieces.items b → IsWalkOf b stored thread l.process l.initial.walk → IsWalkOf b stored thread l.process l.walk;
}
