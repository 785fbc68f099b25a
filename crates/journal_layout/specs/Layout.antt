-- The layout of an archive: a superblock, two journal halves and data blocks, all numbers little endian.
use Rattle.std.specs.Prelude.{ℕ, ◌+◌, ◌*◌, ◌≤◌, List, ◌++◌, replicate, codes}
use Rattle.byteorder.specs.Endian.{little_bytes, little_from}
use Rattle.journal_layout.specs.declared.shape.Shape.{Shape}
use Rattle.journal_layout.specs.declared.shape.Half.{Half}
use Rattle.journal_layout.specs.declared.shape.Half.TheVariants.{A, B}

-- a number in w bytes, the lowest first
unfoldable pub number_bytes : ℕ → ℕ → List ℕ
number_bytes w n = little_bytes w n

-- the number in the w bytes from place p on, the lowest first
abbrev pub field : List ℕ → ℕ → ℕ → ℕ
field bytes p w = little_from p w bytes

-- both numbers of blocks lie in their limits
pub record IsWithinLimits (s : Shape) : Type 0 where
  pub some_half : 1 ≤ s.half_blocks
  pub half : s.half_blocks ≤ 4096
  pub some_data : 1 ≤ s.data_blocks
  pub all_data : s.data_blocks ≤ 16777216

-- the bytes of an archive: a superblock, two halves and the data blocks
abbrev pub disk_length : Shape → ℕ
disk_length s = 4096 * (1 + 2 * s.half_blocks + s.data_blocks)

-- the bytes of a half
abbrev pub half_length : Shape → ℕ
half_length s = 4096 * s.half_blocks

-- the start of a half
abbrev pub half_start : Shape → Half → ℕ
half_start s A = 4096
half_start s B = 4096 * (1 + s.half_blocks)

-- the start of the data blocks
abbrev pub data_start : Shape → ℕ
data_start s = 4096 * (1 + 2 * s.half_blocks)

-- the name of the layout, which is at byte 8
abbrev pub magic : List ℕ
magic = codes "COREKEEP"

-- the superblock's bytes that are looked at, after its gate
unfoldable pub superblock : Shape → List ℕ
superblock s = replicate 7 0 ++ magic ++ number_bytes 4 s.half_blocks ++ number_bytes 4 s.data_blocks

-- a half's header after its gate: version, generation and zeros, 31 bytes
unfoldable pub half_header : ℕ → ℕ → List ℕ
half_header version generation = replicate 3 0 ++ number_bytes 4 version ++ number_bytes 8 generation ++ replicate 16 0
