-- The shape, the version, the numbers and the cases that an open journal keeps.
use Rattle.std.specs.Prelude.{◌≡◌, true, ℕ, ◌+◌, ◌^◌, ◌≤◌, List}
use Rattle.journal_layout.specs.declared.shape.Shape.{Shape}
use Rattle.journal_layout.specs.Case.{Case}
use Rattle.journal_layout.specs.Live.{AreLive, AreLabelled}
use Rattle.journal_layout.specs.Front.{is_known}
use Rattle.journal_layout.specs.Layout.{IsWithinLimits, half_length}

pub record IsKept (shape : Shape) (version : ℕ) (cases : List Case) (next used : ℕ) : Type 0 where
  pub limits : IsWithinLimits shape
  pub known : is_known version ≡ true
  pub live : AreLive shape.data_blocks cases next
  pub labels : AreLabelled version cases
  pub numbers : next ≤ 2 ^ 32
  pub header : 32 ≤ used
  -- the gate of the next record lies in the half
  pub gate : used + 1 ≤ half_length shape
