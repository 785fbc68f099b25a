-- How generations are written: the lowest byte of a half's generation says by itself that they rise.
use Rattle.std.specs.Prelude.{◌≡◌, ◌⊎◌, ℕ, ◌+◌, ◌%◌, ◌<◌, ◌≤◌, List, length, slice_index}
use Rattle.disk_model.specs.Places.{AreBytes}
use Rattle.journal_layout.specs.declared.shape.Half.{Half}
use Rattle.journal_layout.specs.Layout.{field, half_start}
use Rattle.journal_layout.specs.Rewriting.{other_half}
use Rattle.journal_layout.specs.Standing.{Standing}
use Rattle.shared_disk.specs.History.{moment, AreMoments, AreMarked}

-- the lowest byte of a half's generation at a moment
abbrev pub lowest_byte : List (List ℕ) → (ℕ → Standing) → Half → ℕ → ℕ
lowest_byte moments standing h k = slice_index (moment moments k) (half_start (standing 0).shape h + 8)

-- It changes in the half alone that is not taken, and there to that of the next generation. At first that half has the one of a generation that it had, or of the next one:
-- that is so of each archive that was made over zeros.
pub record AreWrittenRising (moments : List (List ℕ)) (standing : ℕ → Standing) : Type 0 where
  pub bytes : (k : ℕ) → k < length moments → AreBytes (moment moments k)
  pub steps : (h : Half) (k : ℕ) → k + 1 < length moments → (lowest_byte moments standing h (k + 1) ≡ lowest_byte moments standing h k)
      ⊎ ((h ≡ other_half (standing k).half) × (lowest_byte moments standing h (k + 1) ≡ ((standing k).generation + 1) % 256))
  pub first : ℕ
  pub first_byte : lowest_byte moments standing (other_half (standing 0).half) 0 ≡ first % 256
  pub first_low : first ≤ (standing 0).generation + 1
  pub first_whole : slice_index (moment moments 0) (half_start (standing 0).shape (other_half (standing 0).half)) ≡ 165
      → first ≡ field (moment moments 0) (half_start (standing 0).shape (other_half (standing 0).half) + 8) 8

-- then generations rise
abbrev pub WhatIsWrittenRisingRises : Type 0
WhatIsWrittenRisingRises =
    (moments : List (List ℕ)) (standing : ℕ → Standing) → AreMoments moments standing → AreWrittenRising moments standing
    → (mark : Half → ℕ → ℕ) × AreMarked moments (standing 0).shape mark
