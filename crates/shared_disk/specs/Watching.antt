-- The state after reads of a disk that others change.
use Rattle.std.specs.Prelude.{◌≡◌, ℕ, ◌≤◌, List, slice_index, IsTrue}
use Rattle.shared_disk.specs.History.{moment}
use Rattle.shared_disk.specs.JournalLooks.{GivesSeen}
use Rattle.shared_disk.specs.declared.watched.WatchedDisk as watched

-- It is read, and time passes: its moments stay the same.
pub record Runs {D : Type 0} (g : watched.Ghosts D) (old new : D) : Type 0 where
  pub moments : g.moments new ≡ g.moments old
  pub honesty : g.is_honest new ≡ g.is_honest old
  pub size : g.size new ≡ g.size old
  pub later : IsTrue (g.is_honest old) → g.reached old ≤ g.reached new

-- Meanwhile there was an open gate at this place, when it was read.
abbrev pub HasOpened : {D : Type 0} → watched.Ghosts D → D → D → ℕ → Type 0
HasOpened g old new at = (k : ℕ) × (g.reached old ≤ k) × (k ≤ g.reached new) × (slice_index (moment (g.moments old) k) at ≡ 165)

-- Meanwhile places were read, and these are the bytes that were read there.
abbrev pub HasRead : {D : Type 0} → watched.Ghosts D → D → D → List ℕ → (ℕ → Type 0) → Type 0
HasRead g old new seen places = GivesSeen (g.moments old) (g.reached old) (g.reached new) seen places
