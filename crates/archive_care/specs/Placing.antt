-- Where the images of a copy lie: in the order of their cases, each in one run right after the one before it.
use Rattle.std.specs.Prelude.{◌≡◌, ℕ, ◌+◌, ◌<◌, ◌≤◌, List, [], ◌∷◌, length, map, Result, Ok, Err, Vec}
use Rattle.std.specs.Global.{Global}
use Rattle.std.specs.List.{All, range_with_len}
use Rattle.journal_layout.specs.Case.{Case, case_of}
use Rattle.journal_layout.specs.Folding.{used_blocks}
use Rattle.journal_layout.specs.Soundness.{blocks_for}
use Rattle.journal_layout.specs.declared.entry.Entry.{Entry}
use Rattle.archive_care.specs.declared.faults.CopyFault.{CopyFault}
use Rattle.archive_care.specs.declared.faults.CopyFault.TheVariants.{SpaceFull, OutOfMemory}

-- the case with its image in these blocks
abbrev pub moved : List ℕ → Case → Case
moved blocks c = record c { blocks = blocks }

-- the cases, the first image from block `at` on
abbrev pub placed : ℕ → List Case → List Case
placed at [] = []
placed at (c ∷ rest) = moved (range_with_len at (length c.blocks)) c ∷ placed (at + length c.blocks) rest

-- each image has as many blocks as its bytes need
abbrev pub AreWhole : List Entry → Type 0
AreWhole entries = All (λ (e : Entry). length e.runs ≡ blocks_for e.length) entries

-- the cases with their places among the first `limit` blocks, or they need more
abbrev pub IsPlaced : ℕ → List Case → Result (Vec Entry Global) CopyFault → Type 0
IsPlaced limit cases (Ok entries) = (map case_of entries.items ≡ placed 0 cases) × (length (used_blocks cases) ≤ limit)
IsPlaced limit cases (Err SpaceFull) = limit < length (used_blocks cases)
IsPlaced limit cases (Err OutOfMemory) = Unit {0}
IsPlaced limit cases (Err _) = ⊥
