-- The bytes that formatting writes, and the archive that it has made in the end.
use Rattle.std.specs.Prelude.{◌≡◌, ℕ, List, [], ◌∷◌, ◌++◌, slice_index, replicate}
use Rattle.disk_model.specs.Places.{part}
use Rattle.journal_layout.specs.declared.shape.Shape.{Shape}
use Rattle.journal_layout.specs.declared.shape.Half.TheVariants.{A, B}
use Rattle.journal_layout.specs.Layout.{superblock, half_header, half_start}

-- n zeros
unfoldable pub zeros : ℕ → List ℕ
zeros n = replicate n 0

-- the superblock's block: the bytes after its gate that are looked at, and zeros to the block's end
abbrev pub superblock_block : ℕ → Shape → List ℕ
superblock_block gate s = gate ∷ superblock s ++ zeros 4072

-- The halves' headers: of the first, of version 1 and generation 1, with an open gate, and after it the closed gate of its first record; of the second the closed gate.
pub record HasHalves (s : Shape) (b : List ℕ) : Type 0 where
  pub first : part b (half_start s A) 33 ≡ 165 ∷ half_header 1 1 ++ 0 ∷ []
  pub second : slice_index b (half_start s B) ≡ 0

-- the same with the superblock's block after a gate
pub record HasFront (gate : ℕ) (s : Shape) (b : List ℕ) : Type 0 where
  pub superblock : part b 0 4096 ≡ superblock_block gate s
  pub halves : HasHalves s b
