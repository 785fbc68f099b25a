-- When cases have the same images.
use Rattle.std.specs.Prelude.{◌≡◌, List, Some}
use Rattle.journal_layout.specs.Case.{Case}
use Rattle.journal_layout.specs.Soundness.{case_numbered}

-- The same image in the same blocks. The pin and the label may be others.
pub record IsSameImage (c d : Case) : Type 0 where
  pub origin : d.origin ≡ c.origin
  pub len : d.len ≡ c.len
  pub blocks : d.blocks ≡ c.blocks

-- one of these cases has the number and the image of that one
abbrev pub HasCase : List Case → Case → Type 0
HasCase cases c = (d : Case) × (case_numbered c.seq cases ≡ Some d) × IsSameImage c d

-- the same image under the same number
pub record IsSameCase (c d : Case) : Type 0 where
  pub seq : c.seq ≡ d.seq
  pub image : IsSameImage d c
