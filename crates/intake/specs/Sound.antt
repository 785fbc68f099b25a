-- Invariants of every archive: each data block is free or used once, by a case or by a stream, and no two of these have one name.
use Rattle.std.specs.Prelude.{◌≡◌, ℕ, ◌+◌, ◌/◌, ◌^◌, ◌<◌, ◌≤◌, Bool, true, false, List, Option, None, Some, length, sum_by, nat_lt, option_map, IsTrue}
use Rattle.std.specs.List.{All, count_by}
use Rattle.disk_model.specs.declared.disk.Disk as disk
use Rattle.extents.specs.FreeSet.{is_free, free_count, uses, one_if}
use Rattle.journal_layout.specs.Case.{Case}
use Rattle.journal_layout.specs.Layout.{IsWithinLimits}
use Rattle.journal_layout.specs.Soundness.{IsWritable}
use Rattle.case_journal.specs.Doubting.{DoubtsGates}
use Rattle.case_journal.specs.Journaled.{Journaled}
use Rattle.intake.specs.Step.{has_name}
use Rattle.intake.specs.State.{blocks_by}
use Rattle.intake.specs.Guarding.{Guards}
use Rattle.journal_layout.specs.Live.{AreLive}
use Rattle.intake.specs.Live.{case_uses, cases_named}
use Rattle.intake.specs.Slots.{closed}
use Rattle.intake.specs.Parts.{StreamParts, stream_facts}

-- the blocks of the stream in a slot
abbrev pub held_by : Option StreamParts → List ℕ
held_by o = blocks_by (option_map stream_facts o)

-- how often the streams use block k
abbrev pub stream_uses : List (Option StreamParts) → ℕ → ℕ
stream_uses streams k = sum_by (λ (o : Option StreamParts). uses (held_by o) k) streams

-- how many blocks they have
abbrev pub stream_blocks : List (Option StreamParts) → ℕ
stream_blocks streams = sum_by (λ (o : Option StreamParts). length (held_by o)) streams

abbrev pub case_blocks : List Case → ℕ
case_blocks cases = sum_by (λ (c : Case). length c.blocks) cases

-- These are the flags of all data blocks, of which the cases leave free those that none of them uses.
pub record LeaveFree (blocks : ℕ) (cases : List Case) (flags : List Bool) : Type 0 where
  pub long : length flags ≡ blocks
  pub once : (k : ℕ) → one_if (is_free flags k) + case_uses cases k ≡ one_if (nat_lt k blocks)
  pub total : free_count flags + case_blocks cases ≡ blocks

-- the stream in this slot has this name
abbrev pub is_called : List ℕ → Option StreamParts → Bool
is_called name o = has_name name (option_map stream_facts o)

-- how many of the streams have this name
abbrev pub streams_named : List (Option StreamParts) → List ℕ → ℕ
streams_named streams name = count_by (is_called name) streams

-- a stream by itself
pub record IsFine (most : ℕ) (s : StreamParts) : Type 0 where
  pub origin : IsWritable s.facts.origin
  pub small : s.facts.len < 2 ^ 64
  pub limit : s.facts.len ≤ most
  -- the blocks that its bytes have filled, and the one that they fill
  pub filled : length s.facts.blocks ≡ s.facts.len / 4096
  pub block : length s.block ≡ 4096

abbrev pub IsFineIfOpen : ℕ → Option StreamParts → Type 0
IsFineIfOpen most None = Unit {0}
IsFineIfOpen most (Some s) = IsFine most s

-- an archive that no disk fault has stopped
pub record IsRunning {D : Type 0} (g : disk.Ghosts D) (d : D) (j : Journaled) (most : ℕ) (flags : List Bool) (streams : List (Option StreamParts)) : Type 0 where
  pub journal : j.stopped ≡ false
  pub keeps : Guards g d j
  pub cases : AreLive j.standing.shape.data_blocks j.standing.cases j.standing.next
  pub streams_fine : All (IsFineIfOpen most) streams
  -- a flag for each data block
  pub blocks : length flags ≡ j.standing.shape.data_blocks
  pub once : (k : ℕ) → one_if (is_free flags k) + case_uses j.standing.cases k + stream_uses streams k ≡ one_if (nat_lt k j.standing.shape.data_blocks)
  pub total : free_count flags + case_blocks j.standing.cases + stream_blocks streams ≡ j.standing.shape.data_blocks
  pub named : (name : List ℕ) → cases_named j.standing.cases name + streams_named streams name ≤ 1

pub record IsArchiveSound {D : Type 0} (g : disk.Ghosts D) (d : D) (j : Journaled) (most : ℕ) (flags : List Bool) (streams : List (Option StreamParts)) (stopped : Bool) : Type 0 where
  pub shape : IsWithinLimits j.standing.shape
  pub slots : length streams ≡ 8
  pub runs : stopped ≡ false → IsRunning g d j most flags streams
  pub none : stopped ≡ true → streams ≡ closed streams
  -- stopped or not
  pub doubts : IsTrue (g.is_honest d) → DoubtsGates g d j.standing.shape
