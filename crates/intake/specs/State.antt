-- The state of an archive without the images' bytes: its cases, its streams, and the facts that decide the answer of a call.
use Rattle.std.specs.Prelude.{ℕ, ◌+◌, ◌/◌, Bool, List, [], Option, None, Some, sum_by, length}
pub use Rattle.journal_layout.specs.Soundness.{blocks_for}
use Rattle.journal_layout.specs.Case.{Case, Origin}
use Rattle.journal_layout.specs.declared.shape.Shape.{Shape}
use Rattle.extents.specs.Runs.{runs_of}

-- a stream on its way, with how many bytes it has taken so far, and the blocks that they have filled
pub record StreamFacts : Type 0 where
  pub origin : Origin
  pub len : ℕ
  pub blocks : List ℕ

pub record ArchiveState : Type 0 where
  pub shape : Shape
  -- of the layout: 1, or 2, which keeps labels
  pub version : ℕ
  -- the most bytes that an image may have
  pub limit : ℕ
  -- in the order of their numbers
  pub cases : List Case
  -- the number of the next case
  pub next : ℕ
  -- the bytes of the journal's taken half that are in use
  pub used : ℕ
  -- of that half: one more each time the journal is written anew
  pub generation : ℕ
  -- by slot
  pub streams : List (Option StreamFacts)
  pub stopped : Bool

-- the blocks of the stream in a slot
abbrev pub blocks_by : Option StreamFacts → List ℕ
blocks_by None = []
blocks_by (Some s) = s.blocks

-- how many blocks it has filled
abbrev pub filled_by : Option StreamFacts → ℕ
filled_by None = 0
filled_by (Some s) = s.len / 4096

-- the blocks in use: those of the cases, and those that the streams have filled
abbrev pub blocks_in : ArchiveState → ℕ
blocks_in s = sum_by (λ (c : Case). blocks_for c.len) s.cases + sum_by filled_by s.streams

-- in how many runs of blocks the image of a case lies
abbrev pub runs_in : Case → ℕ
runs_in c = length (runs_of c.blocks)
