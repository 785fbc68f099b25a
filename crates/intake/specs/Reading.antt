-- How an image is read: the blocks that it lies in, and the refusals of the reading.
use Rattle.std.specs.Prelude.{◌≡◌, ℕ, ◌+◌, ◌≤◌, List, length}
use Rattle.std.specs.List.{All}
use Rattle.extents.specs.declared.run_list.Run.{Run}
use Rattle.extents.specs.Runs.{runs_of}
use Rattle.intake.specs.State.{blocks_for}
use Rattle.intake.specs.declared.faults.ArchiveFault.{ArchiveFault}
use Rattle.intake.specs.declared.faults.ArchiveFault.TheVariants.{OutOfMemory, Disk}

-- the runs lie among the first `limit` blocks
abbrev pub LieWithin : ℕ → List Run → Type 0
LieWithin limit runs = All (λ (r : Run). r.start + r.count ≤ limit) runs

-- An image of `len` bytes lies in these blocks, which are among the first `limit`.
pub record LiesIn (limit : ℕ) (blocks : List ℕ) (len : ℕ) : Type 0 where
  pub within : LieWithin limit (runs_of blocks)
  pub few : length blocks ≤ limit
  pub enough : length blocks ≡ blocks_for len

-- only memory and the disk refuse a reading
abbrev pub IsReadFault : ArchiveFault → Type 0
IsReadFault OutOfMemory = Unit {0}
IsReadFault Disk = Unit {0}
IsReadFault _ = ⊥
