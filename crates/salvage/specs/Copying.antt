-- The promises of a copy of the cases that an archive shows.
use Rattle.std.specs.Prelude.{◌≡◌, ◌≤◌, Bool, List, ℕ, None, Option, Some, Result, OnOk, IsTrue}
use Rattle.archive_care.specs.Copied.{CopyStep, FindsCopy, SparesNew, copy_version}
use Rattle.archive_care.specs.declared.copying.CopyWish.{CopyWish}
use Rattle.archive_care.specs.declared.faults.CopyFault.{CopyFault}
use Rattle.disk_model.specs.declared.disk.Disk as disk
use Rattle.intake.specs.Durable.{Durable, StandsFor}
use Rattle.journal_layout.specs.Standing.{Standing}
use Rattle.journal_layout.specs.Stands.{Stands}
use Rattle.salvage.specs.Fronts.{fronted}
use Rattle.salvage.specs.Showing.{shown}
use Rattle.salvage.specs.declared.cases_found.Found.{Found}
use Rattle.salvage.specs.declared.cases_found.More.{More}
use Rattle.salvage.specs.declared.finding.Sight.{Sight}
use Rattle.salvage.specs.declared.shown.Patch.{Patch}
use Rattle.salvage.specs.declared.source.Source as source

-- The new disk holds the archive of these bytes, if they are those of an honest source: the same cases under their numbers, with their
-- facts, pins, labels and images.
pub record CopiesAs {N : Type 0} (h : disk.Ghosts N) (honest : Bool) (bytes : List ℕ) (wanted : CopyWish) (onto onto' : N) (r : Result (Unit {0}) CopyFault) : Type 0 where
  -- an opening of the new disk finds the cases, whatever a crash from then on leaves of it
  pub copied : (x : Durable) → IsTrue honest → IsTrue (h.is_honest onto) → StandsFor bytes x
      → OnOk r ((c : List ℕ) → h.may_leave onto' c → FindsCopy (copy_version wanted.keeps_labels x.version) x c)
  -- the bytes decide which refusal comes
  pub step : (u : Standing) → IsTrue honest → Stands bytes u → CopyStep (h.size onto) wanted.shape u r
  pub spares : SparesNew r onto onto'
  pub later_onto : h.failures onto ≤ h.failures onto'
  pub honesty : h.is_honest onto' ≡ h.is_honest onto
  pub size : h.size onto' ≡ h.size onto

-- the same of bytes that are shown with one of them as another
abbrev pub CopiesShown : {S N : Type 0} → source.Ghosts S → disk.Ghosts N → S → Option Patch → CopyWish → N → N → Result (Unit {0}) CopyFault → Type 0
CopiesShown g h s patch wanted onto onto' r = CopiesAs h (g.is_honest s) (shown patch (g.seen s)) wanted onto onto' r

-- the bytes that are copied of an archive whose cases were found
abbrev pub bytes_by : Option More → Sight → List ℕ → List ℕ
bytes_by None sight b = shown sight.patch b
bytes_by (Some m) sight b = fronted m.front.items b

abbrev pub found_bytes : Found → List ℕ → List ℕ
found_bytes f b = bytes_by f.more f.sight b
