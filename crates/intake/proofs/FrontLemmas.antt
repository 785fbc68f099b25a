-- What stays of the bytes before the data blocks.
use Rattle.std.proofs.Common.{◌≡◌, ⊎_elim, ℕ, ◌+◌, ◌≤◌, ◌∙◌, Bool, List, Err, ap, arith}
use Rattle.std.specs.Prelude.{take}
use Rattle.disk_model.specs.PartLaws.{widened}
use Rattle.disk_model.specs.declared.disk.Disk as disk
use Rattle.journal_layout.specs.declared.shape.Shape.{Shape}
use Rattle.journal_layout.specs.Layout.{data_start}
use Rattle.intake.specs.Blocks.{block_start}
use Rattle.intake.specs.Front.{KeepsFront, KeepsSuperblock, RefusalKeepsFront}
use Rattle.intake.specs.Growth.{ChangesFree}
use Rattle.intake.specs.Untouched.{RefusalSpares}
use Rattle.intake.specs.declared.faults.ArchiveFault.{ArchiveFault}
use Rattle.intake.specs.declared.faults.ArchiveFault.TheVariants as fault

-- a data block lies behind them
pub free_before : (shape : Shape) (flags : List Bool) (a b : List ℕ) (p : ℕ) → p ≤ data_start shape → ChangesFree shape flags a b → take p b ≡ take p a
free_before shape flags a b p low changes =
    ⊎_elim (λ is. ap (take p) is)
    (λ some. (widened (block_start shape some.0) 4096 a b some.2 p (block_start shape some.0 + 4096) (omega (arith, low)) (omega arith)).before) changes

module _ {D : Type 0} (g : disk.Ghosts D) where
  pub same_superblock : (old new : D) → new ≡ old → KeepsSuperblock g old new
  same_superblock old new is honest = ap (λ (d : D). take 4096 (g.seen d)) is

  pub same_front : (shape : Shape) (old new : D) → new ≡ old → KeepsFront g shape old new
  same_front shape old new is honest = ap (λ (d : D). take (data_start shape) (g.seen d)) is

  -- a refusal that wrote data blocks at most
  pub front_kept : (shape : Shape) (f : ArchiveFault) (old new : D) → KeepsFront g shape old new → RefusalKeepsFront {T = ℕ} g shape (Err f) old new
  front_kept shape fault.Stopped old new keeps = keeps
  front_kept shape fault.BadSlot old new keeps = keeps
  front_kept shape fault.SlotBusy old new keeps = keeps
  front_kept shape fault.NameTaken old new keeps = keeps
  front_kept shape fault.NoStream old new keeps = keeps
  front_kept shape fault.TooLong old new keeps = keeps
  front_kept shape fault.SpaceFull old new keeps = keeps
  front_kept shape fault.NoCase old new keeps = keeps
  front_kept shape fault.Pinned old new keeps = keeps
  front_kept shape fault.JournalFull old new keeps = keeps
  front_kept shape fault.NumbersSpent old new keeps = keeps
  front_kept shape fault.OutOfMemory old new keeps = keeps
  front_kept shape fault.OldVersion old new keeps = keeps
  front_kept shape fault.Disk old new keeps = tt

  -- and then left the disk as it was
  pub front_spared : (shape : Shape) (f : ArchiveFault) (old mid new : D) → KeepsFront g shape old mid → RefusalSpares {T = ℕ} (Err f) mid new → RefusalKeepsFront {T = ℕ} g shape (Err f) old new
  front_spared shape fault.Stopped old mid new keeps spared = λ honest. ap (λ (d : D). take (data_start shape) (g.seen d)) spared ∙ keeps honest
  front_spared shape fault.BadSlot old mid new keeps spared = λ honest. ap (λ (d : D). take (data_start shape) (g.seen d)) spared ∙ keeps honest
  front_spared shape fault.SlotBusy old mid new keeps spared = λ honest. ap (λ (d : D). take (data_start shape) (g.seen d)) spared ∙ keeps honest
  front_spared shape fault.NameTaken old mid new keeps spared = λ honest. ap (λ (d : D). take (data_start shape) (g.seen d)) spared ∙ keeps honest
  front_spared shape fault.NoStream old mid new keeps spared = λ honest. ap (λ (d : D). take (data_start shape) (g.seen d)) spared ∙ keeps honest
  front_spared shape fault.TooLong old mid new keeps spared = λ honest. ap (λ (d : D). take (data_start shape) (g.seen d)) spared ∙ keeps honest
  front_spared shape fault.SpaceFull old mid new keeps spared = λ honest. ap (λ (d : D). take (data_start shape) (g.seen d)) spared ∙ keeps honest
  front_spared shape fault.NoCase old mid new keeps spared = λ honest. ap (λ (d : D). take (data_start shape) (g.seen d)) spared ∙ keeps honest
  front_spared shape fault.Pinned old mid new keeps spared = λ honest. ap (λ (d : D). take (data_start shape) (g.seen d)) spared ∙ keeps honest
  front_spared shape fault.JournalFull old mid new keeps spared = λ honest. ap (λ (d : D). take (data_start shape) (g.seen d)) spared ∙ keeps honest
  front_spared shape fault.NumbersSpent old mid new keeps spared = λ honest. ap (λ (d : D). take (data_start shape) (g.seen d)) spared ∙ keeps honest
  front_spared shape fault.OutOfMemory old mid new keeps spared = λ honest. ap (λ (d : D). take (data_start shape) (g.seen d)) spared ∙ keeps honest
  front_spared shape fault.OldVersion old mid new keeps spared = λ honest. ap (λ (d : D). take (data_start shape) (g.seen d)) spared ∙ keeps honest
  front_spared shape fault.Disk old mid new keeps spared = tt
