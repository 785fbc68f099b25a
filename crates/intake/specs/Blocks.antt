-- The bytes of data blocks, and of the images and streams that are in them.
use Rattle.std.specs.Prelude.{ℕ, ◌+◌, ◌-◌, ◌*◌, List, ◌++◌, length, take, replicate}
use Rattle.std.specs.List.{flat_map}
use Rattle.disk_model.specs.Places.{part}
use Rattle.journal_layout.specs.declared.shape.Shape.{Shape}
use Rattle.journal_layout.specs.Layout.{data_start}
use Rattle.intake.specs.State.{blocks_for}

-- where a data block begins on the disk
abbrev pub block_start : Shape → ℕ → ℕ
block_start shape k = data_start shape + 4096 * k

-- the bytes of a data block
abbrev pub block_bytes : Shape → List ℕ → ℕ → List ℕ
block_bytes shape bytes k = part bytes (block_start shape k) 4096

-- the bytes of these blocks, one after another
abbrev pub joined : Shape → List ℕ → List ℕ → List ℕ
joined shape bytes blocks = flat_map (block_bytes shape bytes) blocks

-- an image: its blocks joined and cut to its length
abbrev pub image_in : Shape → List ℕ → List ℕ → ℕ → List ℕ
image_in shape bytes blocks len = take len (joined shape bytes blocks)

-- these bytes, and zeros to the end of the last block that they need
abbrev pub padded : List ℕ → List ℕ
padded bytes = bytes ++ replicate (4096 * blocks_for (length bytes) - length bytes) 0
