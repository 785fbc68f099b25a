-- The names that an archive keeps: those of its live cases and of its open streams.
use Rattle.std.specs.Prelude.{◌≡◌, ◌+◌, ℕ, Bool, false, ◌||◌, if◌then◌else◌, List, map, Option, Result, Ok, Err}
use Rattle.std.specs.List.{list_any}
use Rattle.std.specs.Str.{bytes_eq}
use Rattle.std.specs.BTreeSet.{BTreeSet}
use Rattle.arrayvec.specs.ArrayVec.{ArrayVec}
use Rattle.extents.specs.FreeSet.{one_if}
use Rattle.disk_model.specs.declared.disk.Disk as disk
use Rattle.journal_layout.specs.Case.{Case}
use Rattle.journal_layout.specs.Live.{gone}
use Rattle.journal_records.specs.Named.{has_name}
use Rattle.case_journal.specs.Journaled.{Journaled}
use Rattle.intake.specs.Parts.{StreamParts}
use Rattle.intake.specs.Live.{cases_named}
use Rattle.intake.specs.Sound.{IsArchiveSound, streams_named}
use Rattle.intake.specs.declared.faults.ArchiveFault.{ArchiveFault}

-- the set has this name as well, unless there was no memory; any other as before
abbrev pub KeepsName : Result (Unit {0}) ArchiveFault → List ℕ → BTreeSet (ℕ × ArrayVec ℕ) → BTreeSet (ℕ × ArrayVec ℕ) → Type 0
KeepsName (Ok u) name old new = (q : List ℕ) → has_name new q ≡ (bytes_eq name q || has_name old q)
KeepsName (Err f) name old new = (q : List ℕ) → has_name new q ≡ has_name old q

-- the set has this name no more; any other as before
abbrev pub ForgetsName : List ℕ → BTreeSet (ℕ × ArrayVec ℕ) → BTreeSet (ℕ × ArrayVec ℕ) → Type 0
ForgetsName name old new = (q : List ℕ) → has_name new q ≡ (if bytes_eq name q then false else has_name old q)

-- the name of a case that was refused is forgotten
abbrev pub GivesNameBack : Result ℕ ArchiveFault → List ℕ → BTreeSet (ℕ × ArrayVec ℕ) → BTreeSet (ℕ × ArrayVec ℕ) → Type 0
GivesNameBack (Ok seq) name old new = new ≡ old
GivesNameBack (Err f) name old new = ForgetsName name old new

-- whether this is one of the names
abbrev pub is_one_of : List (ArrayVec ℕ) → List ℕ → Bool
is_one_of names name = list_any (λ (n : ArrayVec ℕ). bytes_eq n.items name) names

-- the set has none of these names more; any other as before
abbrev pub ForgetsNames : List (ArrayVec ℕ) → BTreeSet (ℕ × ArrayVec ℕ) → BTreeSet (ℕ × ArrayVec ℕ) → Type 0
ForgetsNames names old new = (q : List ℕ) → has_name new q ≡ (if is_one_of names q then false else has_name old q)

abbrev pub items_of : ArrayVec ℕ → List ℕ
items_of n = n.items

abbrev pub name_of_case : Case → List ℕ
name_of_case c = c.origin.name

-- the names of the cases that have these numbers
abbrev pub names_gone : List ℕ → List Case → List (List ℕ)
names_gone seqs cases = map name_of_case (gone seqs cases)

-- The set has a name if and only if one of the cases or of the streams has it, and no two of these have one name.
abbrev pub AreTaken : List Case → List (Option StreamParts) → BTreeSet (ℕ × ArrayVec ℕ) → Type 0
AreTaken cases streams names = (name : List ℕ) → cases_named cases name + streams_named streams name ≡ one_if (has_name names name)

-- A sound archive, whose set has the names of its live cases and of its open streams, until a disk fault stops it.
pub record IsConsistent {D : Type 0} (g : disk.Ghosts D) (d : D) (j : Journaled) (most : ℕ) (flags : List Bool) (streams : List (Option StreamParts)) (stopped : Bool)
    (names : BTreeSet (ℕ × ArrayVec ℕ)) : Type 0 where
  pub sound : IsArchiveSound g d j most flags streams stopped
  pub taken : stopped ≡ false → AreTaken j.standing.cases streams names
