-- The facts of an archive, from an opening of its journal.
use Rattle.std.specs.Prelude.{◌≡◌, ◌-◌, ℕ, Result, Ok, Err}
use Rattle.archive_files.specs.declared.failures.Refusal.{Refusal}
use Rattle.archive_files.specs.declared.failures.Refusal.TheVariants.{Open}
use Rattle.case_tables.specs.DayBars.{cores_by_day}
use Rattle.case_tables.specs.Tally.{tally_of}
use Rattle.case_tables.specs.declared.archive_screen.ArchiveFacts.{ArchiveFacts}
use Rattle.case_journal.specs.Opening.{journal_of}
use Rattle.case_journal.specs.Viewing.{ShowsOpening}
use Rattle.case_journal.specs.declared.open.Opened.{Opened}
use Rattle.disk_model.specs.declared.disk.Disk as disk
use Rattle.extents.specs.FreeSet.{free_count}
use Rattle.journal_layout.specs.Layout.{IsWithinLimits, disk_length, half_length}
use Rattle.journal_layout.specs.Standing.{Standing}
use Rattle.journal_layout.specs.declared.faults.OpenFault.{OpenFault}
use Rattle.journal_records.specs.Kept.{IsSpareMap}

-- The facts are those of the journal, with so many free data blocks.
pub record AreFactsOf (s : Standing) (free : ℕ) (f : ArchiveFacts) : Type 0 where
  pub version : f.version ≡ s.version
  pub length : IsWithinLimits s.shape → f.length ≡ disk_length s.shape
  pub data_blocks : f.data_blocks ≡ s.shape.data_blocks
  pub free_blocks : f.free_blocks ≡ free
  pub half : f.half ≡ half_length s.shape
  pub used : f.used ≡ s.used
  pub cores : f.cores ≡ (tally_of s.cases).cores
  pub executables : f.executables ≡ (tally_of s.cases).executables
  pub pinned : f.pinned ≡ (tally_of s.cases).pinned
  pub oldest : f.oldest ≡ (tally_of s.cases).oldest
  pub newest : f.newest ≡ (tally_of s.cases).newest
  pub last_number : f.last_number ≡ s.next - 1
  pub days : f.days ≡ cores_by_day (tally_of s.cases).newest s.cases

-- those of a journal that was opened: free are the data blocks that no case has
abbrev pub AreFactsIn : Opened → ArchiveFacts → Type 0
AreFactsIn o f = IsSpareMap o.journal.standing.shape.data_blocks o.journal.standing.cases o.free × AreFactsOf o.journal.standing (free_count o.free) f

-- by the result of an opening
abbrev pub FactsBy : Result Opened OpenFault → Result ArchiveFacts Refusal → Type 0
FactsBy (Ok o) (Ok f) = AreFactsIn o f
FactsBy (Ok o) (Err refusal) = ⊥
FactsBy (Err fault) r = r ≡ Err (Open fault)

-- The journal on a disk is opened, and the facts of its archive are found.
abbrev pub FactsOn : {D : Type 0} → disk.Ghosts D → D → Result ArchiveFacts Refusal → Type 0
FactsOn g before r = (opened : Result Opened OpenFault) × ShowsOpening g before (journal_of opened) × FactsBy opened r
