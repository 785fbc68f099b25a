-- The result of a look.
use Rattle.std.specs.Prelude.{◌≡◌, ℕ, ◌<◌, ◌≤◌, List, ◌++◌, length, drop, Ok}
use Rattle.journal_layout.specs.declared.shape.Shape.{Shape}
use Rattle.journal_layout.specs.declared.shape.Half.{Half}
use Rattle.journal_layout.specs.Front.{Front, front_opening}
use Rattle.journal_layout.specs.Standing.{Standing}
use Rattle.journal_layout.specs.Stands.{Stands, front_of}
use Rattle.shared_disk.specs.History.{moment, AreMoments, AreMarked}
use Rattle.shared_disk.specs.JournalLooks.{IsLook, AreFew}

-- these bytes, and behind them those of c
abbrev pub seen_over : List ℕ → List ℕ → List ℕ
seen_over front c = front ++ drop (length front) c

-- A look from moment i to moment j read these bytes of the superblock and of both halves. Let the data blocks be those of a moment meanwhile. If the
-- front gives this shape, it gives this half, and it is a look that is taken.
pub record IsSeen (moments : List (List ℕ)) (i j : ℕ) (shape : Shape) (half : Half) (front : List ℕ) : Type 0 where
  pub at : ℕ
  pub from : i ≤ at
  pub until : at ≤ j
  pub look : (f : Front) → f.shape ≡ shape → front_opening (seen_over front (moment moments at)) ≡ Ok f
      → (l : IsLook moments (seen_over front (moment moments at)) f) × (l.has_order ≡ at) × (i ≤ l.begin) × (l.finish ≤ j) × (f.half ≡ half)

-- The seen bytes encode the archive that the disk encoded at that moment, if their front gives this shape.
abbrev pub WhatIsSeenIsAMoment : Type 0
WhatIsSeenIsAMoment =
    (moments : List (List ℕ)) (standing : ℕ → Standing) (mark : Half → ℕ → ℕ) (i j : ℕ) (shape : Shape) (half : Half) (front : List ℕ) (f : Front)
    → AreMoments moments standing → AreMarked moments (standing 0).shape mark → j < length moments → AreFew mark i j
    → (s : IsSeen moments i j shape half front) → f.shape ≡ shape → front_opening (seen_over front (moment moments s.at)) ≡ Ok f
    → (t : Standing) × (f ≡ front_of t) × Stands (seen_over front (moment moments s.at)) t × Stands (moment moments s.at) t
