-- Parts of an image.
use Rattle.std.specs.Prelude.{◌≡◌, ◌<◌, ◌≤◌, ◌⊎◌, ◌+◌, ⊤, ℕ, List, [], ◌∷◌, length}
use Rattle.elf_view.specs.Field.{part}
use Rattle.seen_memory.specs.declared.part.Part.{Part}

-- these are bytes of the image, from a place on
abbrev pub IsPartOf : List ℕ → ℕ → List ℕ → Type 0
IsPartOf image at bytes = bytes ≡ part image at (length bytes)

-- the bytes of each part are bytes of the image
abbrev pub HasParts : List ℕ → List Part → Type 0
HasParts image [] = ⊤
HasParts image (p ∷ ps) = IsPartOf image p.at p.bytes.now × HasParts image ps

-- the part does not have that place
abbrev pub IsOutside : ℕ → Part → Type 0
IsOutside place p = (place < p.at) ⊎ (p.at + length p.bytes.now ≤ place)

-- none of the parts has it
abbrev pub IsBeside : ℕ → List Part → Type 0
IsBeside place [] = ⊤
IsBeside place (p ∷ ps) = IsOutside place p × IsBeside place ps
