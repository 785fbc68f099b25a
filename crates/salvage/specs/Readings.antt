-- The parts of an archive that are read after its first fault.
use Rattle.std.specs.Prelude.{◌≡◌, ◌≢◌, ◌⊎◌, ◌<◌, ◌≤◌, ℕ, true, List, length, Option, None, Some, Result, Ok, Err}
use Rattle.disk_model.specs.Places.{part}
use Rattle.journal_layout.specs.Layout.{data_start}
use Rattle.journal_layout.specs.Standing.{Standing}
use Rattle.journal_layout.specs.Stands.{IsRefused, Stands}
use Rattle.journal_layout.specs.declared.faults.Field.TheVariants.{Gate}
use Rattle.journal_layout.specs.declared.faults.OpenFault.{OpenFault}
use Rattle.journal_layout.specs.declared.faults.OpenFault.TheVariants.{Damaged}
use Rattle.journal_layout.specs.declared.shape.Shape.{Shape}
use Rattle.journal_layout.specs.Case.{Case}
use Rattle.salvage.specs.Cases.{HasCase}
use Rattle.salvage.specs.Contests.{IsUncontested, Knows, OfEachBehind}
use Rattle.salvage.specs.Doubting.{IsBound, trouble_by}
use Rattle.salvage.specs.Finding.{HasNoGate, IsShort, SeesArchive}
use Rattle.salvage.specs.Fronts.{fronted}
use Rattle.salvage.specs.Mending.{AreBelow, blocks_in}
use Rattle.salvage.specs.Noting.{KeepsNoted}
use Rattle.salvage.specs.Reads.{AreFrom, AreHalvesRead}
use Rattle.salvage.specs.Records.{AreDrops, AreIndexed, HasEachBut, IsDeleted}
use Rattle.salvage.specs.Showing.{IsWithin, shown}
use Rattle.salvage.specs.Shut.{shut_gate}
use Rattle.salvage.specs.declared.cases_found.Found.{Found}
use Rattle.salvage.specs.declared.cases_found.More.{More}
use Rattle.salvage.specs.declared.doubts.Doubts.{Doubts}
use Rattle.salvage.specs.declared.doubts.Trouble.{Trouble}
use Rattle.salvage.specs.declared.mending.Mend.{Mend}
use Rattle.salvage.specs.declared.records.Dropped.{Dropped}
use Rattle.salvage.specs.declared.records.Read.{Read}

-- A reading of the records of both halves. With other bytes instead of the superblock and the journal, the archive opens. It has each case
-- that precedes the fault and that no readable record deletes, with the same image in the same blocks. Its data blocks are at the same
-- places. Each case is pinned and labelled as the readable records say, and no number of a copied case is given again.
pub record IsMore (b : List ℕ) (first : Standing) (drops : List Dropped) (reads : List Read) (bound : ℕ) (m : More) : Type 0 where
  pub stands : Stands (fronted m.front.items b) m.journal.standing
  pub front : length m.front.items ≡ data_start first.shape
  pub each : HasEachBut drops m.journal.standing.cases first.cases
  pub shape : m.journal.standing.shape ≡ first.shape
  pub noted : KeepsNoted (part b 0 (data_start first.shape)) first reads bound m.journal.standing

-- Why the opening is refused, or the damaged gate of an archive that opens.
abbrev pub fault_by : Option OpenFault → Option ℕ → Option OpenFault
fault_by fault None = fault
fault_by fault (Some gate) = Some (Damaged gate Gate)

abbrev pub first_fault : Found → Option OpenFault
first_fault f = fault_by f.sight.fault f.shut

-- why the archive's own opening is refused, if it is
abbrev pub reason_by : Option Mend → Option OpenFault → Option OpenFault
reason_by None fault = fault
reason_by (Some m) fault = Some m.fault

-- from this number on a case is doubtful
abbrev pub HasBound : Shape → List ℕ → Trouble → Option Doubts → Type 0
HasBound shape bytes t None = ⊥
HasBound shape bytes t (Some d) = IsBound shape bytes t d.bound

-- The cases of an archive that are found.
pub record SeesCases (b : List ℕ) (f : Found) : Type 0 where
  pub sees : SeesArchive b f.sight
  -- the journal before the first fault
  pub first : Stands (shown f.sight.patch b) f.first.standing
  -- the reading that is copied instead, if there is one
  pub more : (m : More) → f.more ≡ Some m → (d : Doubts) × (f.doubts ≡ Some d) × IsMore b f.first.standing f.scan.drops.items f.scan.reads.items d.bound m
  -- a record of the archive deletes each case that is reported as deleted
  pub drops : AreDrops (part b 0 (data_start f.first.standing.shape)) f.scan.drops.items
  -- each case that is reported as stored is stored by a record of the archive
  pub from : AreFrom f.first.standing.shape.data_blocks (part b 0 (data_start f.first.standing.shape)) f.scan.reads.items
  -- they are looked up by all that they name
  pub indexed : AreIndexed f.scan.drops.items f.scan.dropped
  -- if there is a fault, the facts of each record of a half that reads by itself
  pub reads : first_fault f ≢ None → AreHalvesRead f.first.standing.shape (part b 0 (data_start f.first.standing.shape)) f.scan.reads.items f.scan.drops.items
  -- of an archive that stands, the first damaged gate
  pub shut : (s : Standing) → Stands b s → f.shut ≡ shut_gate b s
  -- and of no other
  pub refused : f.sight.fault ≢ None → f.shut ≡ None
  -- a sound archive of which no gate is damaged is read as it is
  pub sound : first_fault f ≡ None → f.more ≡ None
  -- from which number on a case is doubtful that stands before the first fault
  pub bound : (t : Trouble) → trouble_by f.sight.fault f.sight.patch f.shut ≡ Some t → HasBound f.first.standing.shape (part b 0 (data_start f.first.standing.shape)) t f.doubts
  -- and which cases are known of the records from it on
  pub behind : (t : Trouble) → trouble_by f.sight.fault f.sight.patch f.shut ≡ Some t → (d : Doubts) → f.doubts ≡ Some d
      → OfEachBehind f.first.standing.shape (part b 0 (data_start f.first.standing.shape)) t.gate (Knows d)

abbrev pub FindsCases : List ℕ → Result Found OpenFault → Type 0
FindsCases b (Ok f) = SeesCases b f
FindsCases b (Err fault) = IsShort fault ⊎ (IsRefused b fault × HasNoGate b)

-- all bytes that are shown lie within the archive
pub record FoundWithin (size : ℕ) (f : Found) : Type 0 where
  pub patch : IsWithin size f.sight.patch
  pub front : (m : More) → f.more ≡ Some m → length m.front.items ≤ size

-- the cases that are copied
abbrev pub cases_by : Option More → Standing → List Case
cases_by None first = first.cases
cases_by (Some m) first = m.journal.standing.cases

-- the number is below the first one that makes a case doubtful
abbrev pub IsBelow : Option Doubts → ℕ → Type 0
IsBelow None seq = ⊥
IsBelow (Some d) seq = seq < d.bound

-- the shape that is taken is the archive's without a doubt, and the file has all blocks of the case
abbrev pub IsHeldBy : Option Mend → Case → Type 0
IsHeldBy None c = Unit {0}
IsHeldBy (Some m) c = (m.is_sure ≡ true) × AreBelow (blocks_in m.held m.shape) c.blocks

-- A case is reported as whole: the file has all of it. Either there is no fault, or the case precedes the first fault, that fault leaves its
-- number certain, no readable record deletes it, and none from the fault on stores a case with its number, its name or a block of it.
abbrev pub IsWholeIn : Found → Case → Type 0
IsWholeIn f c =
    IsHeldBy f.mend c
    × ((first_fault f ≡ None) ⊎ (HasCase f.first.standing.cases c × IsBelow f.doubts c.seq × (AreIndexed f.scan.drops.items f.scan.dropped → IsDeleted f.scan.drops.items c.seq → ⊥)
    × IsUncontested f.doubts c))
