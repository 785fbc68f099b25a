-- Segments in the order of their addresses.
use Rattle.std.specs.Prelude.{◌≡◌, ◌⊎◌, ◌<◌, ◌≤◌, ℕ, ◌+◌, ◌^◌, List, [], ◌∷◌}
use Rattle.elf_view.specs.Header.{SegmentView}
use Rattle.address_space.specs.Source.{span}

-- Each PT_LOAD that takes addresses begins at or after address a and at or after the end of the one before, and none takes the last address of all.
abbrev pub IsRising : ℕ → List SegmentView → Type 0
IsRising a [] = a < 2 ^ 64
IsRising a (s ∷ ss) = ((span s ≡ 0) × IsRising a ss) ⊎ ((a ≤ s.vaddr) × IsRising (s.vaddr + span s) ss)
